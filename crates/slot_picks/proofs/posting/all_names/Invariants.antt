use Rattle.std.proofs.Common.{◌≡◌, map, take}
use Rattle.slot_picks.specs.declared.slots.Slot.{Slot}
use Rattle.slot_picks.proofs.posting.all_names.Given as goal

abbrev pub invariant-slots : goal.invariant-slots
invariant-slots l = l.names.items ≡ map (λ (s : Slot). s.name) (take l.slot-index l.slots)
