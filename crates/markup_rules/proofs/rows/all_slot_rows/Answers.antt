use Rattle.std.proofs.Common.{subst}
use Rattle.first_breach.specs.Breaches.{Nothing, Each}
use Rattle.first_breach.specs.Narrowing.{Narrows}
use Rattle.first_breach.proofs.Narrowing.{narrows_both}
use Rattle.markup_rules.specs.Parts.{element_of}
use Rattle.markup_rules.specs.Rows.{SlotRows, SlotAttributeRows}
use Rattle.markup_rules.proofs.Steps.{map_step}
use Rattle.markup_rules.proofs.rows.all_slot_rows.Goals as goal

pub parts-preserved : goal.parts-preserved
parts-preserved c = map_step (SlotRows c.args.slot.now.name.now c.args.slot.now.libs.now) _ _ _ element_of c.args.parts.now c.parts.part-index c.part-item.result c.parts-test.true c.part-item.is c.parts.invariant
    (narrows_both c.followed-least.ensures (subst (λ b. Narrows (Each (SlotAttributeRows c.args.slot.now.name.now c.args.slot.now.libs.now b) c.part-item.result.attrs.now) c.followed-least.result Nothing c.all_slot_attribute_rows-least.result) c.is_word-of_script.ensures c.all_slot_attribute_rows-least.ensures))
