use Rattle.std.proofs.Common.{◌∙◌, ap, set}
use Rattle.std.proofs.lemmas.List.{set-get_or}
use Rattle.store_cells.specs.Numbered.{NumberedCell}
use Rattle.store_table.proofs.table.make_places.Goals as goal

pub returns : goal.returns
returns c =
    let cs = c.args.cells.now.items in
    let x = c.index_mut-cell.result.now in
    ap (λ (y : NumberedCell). set cs c.args.i y) (c.make_places.ensures ∙ c.index_mut-cell.ensures.value) ∙ set-get_or cs c.args.i x
