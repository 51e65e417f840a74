use Rattle.std.proofs.Common.{◌∙◌, Option, ap, sym}
use Rattle.std.specs.Option.{option_and_then, option_map_or}
use Rattle.std.proofs.lemmas.Option.{IfSome_then}
use Rattle.store_cells.specs.declared.value.Value.{Value}
use Rattle.store_cells.specs.Cells.{chain, first_own}
use Rattle.store_cells.specs.Host.{global}
use Rattle.object_store.specs.Calls.{readable}
use Rattle.js_image.specs.Reads.{shown_global}
use Rattle.js_image.proofs.reading.soon_at.Goals as goal

pub returns : goal.returns
returns c =
    let cells = c.args.store.now.cells in
    let name = c.args.name.now in
    IfSome_then c.var_few.result c.var_few.ensures
    (λ v e. sym (ap (λ (o : Option Value). option_map_or (λ x. x) o (shown_global (first_own name (readable cells global)))) (ap (option_and_then (λ i. first_own name (chain cells i))) c.in_ok-from.was ∙ e)))
