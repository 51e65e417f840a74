use Rattle.std.proofs.Common.{◌∙◌}
use Rattle.store_cells.proofs.Filled.{cell_ok, filled_fine, filled_is, kept_after, kept_err}
use Rattle.store_table.proofs.table.add_filled.Goals as goal

pub returns-in_err-cell-clause-err : goal.returns-in_err-cell-clause-err
returns-in_err-cell-clause-err c = kept_err c.args.names.now c.filled.new.names c.filled.ensures.grown c.filled.ensures.table c.args.cells.now.items c.requires.base c.from_residual.result

pub returns-clause-ok : goal.returns-clause-ok
returns-clause-ok c =
    let b = c.in_ok-cell.ensures in
    let cs = c.args.cells.now.items in
    let is = b.done ∙ filled_is c.args.head c.args.pairs.now c.requires.distinct in
    cell_ok c.args.names.now c.filled.new.names c.filled.ensures.grown c.filled.ensures.table cs c.requires.base c.args.head c.args.pairs.now c.in_ok-cell.cell b.head is (filled_fine c.filled.new.names _ c.args.head c.args.pairs.now c.in_ok-cell.cell b.known b.head is c.requires.other c.requires.refs) c.requires.ordered c.push.result c.push.new.cells.items c.push.ensures.ok

pub returns-clause-err : goal.returns-clause-err
returns-clause-err c = kept_after c.args.names.now c.filled.new.names c.filled.ensures.grown c.filled.ensures.table c.args.cells.now.items c.requires.base c.push.new.cells.items c.push.result c.push.ensures.err
