use Rattle.std.proofs.Common.{refl, length, arith, ◌∙◌, ap}
use Rattle.std.proofs.lemmas.Option.{slice_get_read}
use Rattle.store_cells.specs.Numbered.{NumberedCell, numbered_held, numbered_cut}
use Rattle.store_cells.proofs.Lists.{set_is}
use Rattle.store_cells.proofs.Writes.{cut_counted, cut_indexed, cut_known, has_length, wrote_length}
use Rattle.store_table.proofs.table.resize.Goals as goal

pub write_held-requires : goal.write_held-requires
write_held-requires c =
    let cs = c.args.cells.now.items in
    let x = c.index_mut-cell.result.now in
    has_length c.args.names.now c.args.name.now cs c.requires.base c.args.i c.args.len c.args.value c.requires.plan x (slice_get_read cs (length cs) c.args.i x refl (omega (arith, c.requires.at, c.args.cells.now.ok.0)) c.index_mut-cell.ensures.value)

pub returns : goal.returns
returns c =
    let cs = c.args.cells.now.items in
    let names = c.args.names.now in
    let x = c.index_mut-cell.result.now in
    let at = slice_get_read cs (length cs) c.args.i x refl (omega (arith, c.requires.at, c.args.cells.now.ok.0)) c.index_mut-cell.ensures.value in
    let known = cut_known names c.args.name.now cs c.requires.base c.args.i c.args.len c.args.value c.requires.plan x c.write_held.new.self at c.write_held.ensures in
    let indexed = cut_indexed names c.args.name.now cs c.requires.base c.args.i c.args.len c.args.value c.requires.plan x c.write_held.new.self at c.write_held.ensures in
    let counted = cut_counted names c.args.name.now cs c.requires.base c.args.i c.args.len c.args.value c.requires.plan x c.write_held.new.self at c.write_held.ensures in
    wrote_length names c.args.name.now cs c.requires.base c.args.i c.args.len c.args.value c.requires.plan _ (set_is cs c.args.i x c.cut.new.self (λ d. numbered_cut names c.args.len (numbered_held 0 c.args.value d)) at (c.cut.ensures names known indexed counted ∙ ap (λ (d : NumberedCell). numbered_cut names c.args.len d) c.write_held.ensures))
