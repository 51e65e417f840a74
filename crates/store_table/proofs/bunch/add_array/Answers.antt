use Rattle.std.proofs.Common.{◌≤◌, ◌+◌, arith, length, refl}
use Rattle.store_cells.proofs.Elements.{array_fine, array_plain, elements_more}
use Rattle.store_cells.proofs.Filled.{cell_ok, kept_after, kept_err}
use Rattle.store_table.proofs.Gifts.{grown_same}
use Rattle.store_table.proofs.bunch.add_array.Goals as goal

pub returns-in_err-cell-clause-err : goal.returns-in_err-cell-clause-err
returns-in_err-cell-clause-err c = kept_err c.args.names.now c.args.names.now (grown_same c.args.names.now) c.requires.base.table c.args.cells.now.items c.requires.base c.from_residual.result

pub returns-clause-ok : goal.returns-clause-ok
returns-clause-ok c =
    let cs = c.args.cells.now.items in
    let vs = c.args.values.now in
    let is = c.in_ok-cell.ensures in
    let few : length vs ≤ 4294967295 = omega (arith, c.requires.few) in
    let g = grown_same c.args.names.now in
    cell_ok c.args.names.now c.args.names.now g c.requires.base.table cs c.requires.base c.args.head _ c.in_ok-cell.cell is.head (array_plain c.args.names.now c.args.head (length vs) vs c.in_ok-cell.cell refl is) (array_fine c.args.names.now (length cs + 1) c.args.head (length vs) vs c.in_ok-cell.cell c.requires.base.table c.requires.base.words few few (elements_more (length cs) (length cs + 1) vs (omega arith) c.requires.refs) is) c.requires.ordered c.push.result c.push.new.cells.items c.push.ensures.ok

pub returns-clause-err : goal.returns-clause-err
returns-clause-err c = kept_after c.args.names.now c.args.names.now (grown_same c.args.names.now) c.requires.base.table c.args.cells.now.items c.requires.base c.push.new.cells.items c.push.result c.push.ensures.err
