use Rattle.std.proofs.Common.{subst, ap, ◌∙◌, map}
use Rattle.first_breach.specs.Breaches.{Nothing, Each}
use Rattle.first_breach.specs.Narrowing.{Narrows}
use Rattle.first_breach.proofs.Narrowing.{narrows_both}
use Rattle.markup_rules.specs.Parts.{element_of}
use Rattle.markup_rules.specs.Rows.{OtherRows, InsideRow}
use Rattle.markup_rules.proofs.Steps.{map_step}
use Rattle.markup_rules.proofs.rows.all_other_rows.Goals as goal

pub parts-preserved : goal.parts-preserved
parts-preserved c = map_step (OtherRows c.args.name.now) _ _ _ element_of c.args.parts.now c.parts.part-index c.part-item.result c.parts-test.true c.part-item.is c.parts.invariant
    (narrows_both (subst (λ l. Narrows (Each InsideRow l) c.parts.least Nothing c.inside_rows-least.result) (ap (map element_of) c.deref.ensures.value ∙ c.in_ok-scripts.ensures) c.inside_rows-least.ensures) c.id_rows-least.ensures)
