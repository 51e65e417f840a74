use Rattle.std.proofs.Common.{refl, length, arith}
use Rattle.std.proofs.lemmas.Option.{slice_get_read}
use Rattle.store_cells.specs.Numbered.{numbered_without}
use Rattle.store_cells.proofs.Lists.{set_is}
use Rattle.store_cells.proofs.Takes.{took}
use Rattle.store_table.proofs.table.take.Goals as goal

pub returns : goal.returns
returns c =
    let cs = c.args.cells.now.items in
    let x = c.index_mut-cell.result.now in
    let at = slice_get_read cs (length cs) c.args.i x refl (omega (arith, c.requires.at, c.args.cells.now.ok.0)) c.index_mut-cell.ensures.value in
    took c.args.names.now cs c.requires.base c.args.i c.args.name.now c.args.n c.end_of.result c.requires.number c.end_of.ensures c.requires.kept _ (set_is cs c.args.i x c.take.new.self (numbered_without c.args.n c.end_of.result) at c.take.ensures)
