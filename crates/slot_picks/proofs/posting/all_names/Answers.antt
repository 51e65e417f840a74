use Rattle.std.proofs.Common.{◌∙◌, ap, arith, map}
use Rattle.std.proofs.lemmas.List.{take_all}
use Rattle.slot_picks.specs.declared.slots.Slot.{Slot}
use Rattle.slot_picks.proofs.posting.all_names.Goals as goal

pub slots-init : goal.slots-init
slots-init c = c.new-names.ensures.items

pub returns : goal.returns
returns c = c.slots.invariant ∙ ap (map (λ (s : Slot). s.name)) (take_all c.slots.slot-index c.args.slots.now (omega (arith, c.slots-test.false)))
