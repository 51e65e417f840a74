use Rattle.std.proofs.Common.{refl, length, arith}
use Rattle.std.proofs.lemmas.Option.{slice_get_read}
use Rattle.store_cells.specs.Numbered.{numbered_held}
use Rattle.store_cells.proofs.Lists.{set_is}
use Rattle.store_cells.proofs.Takes.{has_variable, wrote_variable}
use Rattle.store_table.proofs.table.set_variable.Goals as goal

pub write_near-requires : goal.write_near-requires
write_near-requires c =
    let cs = c.args.cells.now.items in
    let x = c.index_mut-cell.result.now in
    has_variable c.args.names.now cs c.requires.base c.requires.variable.from c.args.spot.cell c.requires.variable.scope c.args.name.now c.args.n c.requires.number.0 c.requires.number.1 c.requires.variable.found x (slice_get_read cs (length cs) c.args.spot.cell x refl (omega (arith, c.requires.at, c.args.cells.now.ok.0)) c.index_mut-cell.ensures.value)

pub returns : goal.returns
returns c =
    let cs = c.args.cells.now.items in
    let x = c.index_mut-cell.result.now in
    wrote_variable c.args.names.now cs c.requires.base c.requires.variable.from c.args.spot.cell c.requires.variable.scope c.args.name.now c.args.n c.requires.number.0 c.requires.number.1 c.requires.variable.found c.args.value c.requires.value _ (set_is cs c.args.spot.cell x c.write_near.new.self (numbered_held c.args.n c.args.value) (slice_get_read cs (length cs) c.args.spot.cell x refl (omega (arith, c.requires.at, c.args.cells.now.ok.0)) c.index_mut-cell.ensures.value) c.write_near.ensures)
