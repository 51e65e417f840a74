use Rattle.std.proofs.Common.{◌≡◌, ℕ, false, length, map, take}
use Rattle.std.specs.Prelude.{slice_get}
use Rattle.post_rounds.specs.Events.{values}
use Rattle.slot_picks.specs.Lives.{chains_of}
use Rattle.slot_picks.specs.Feeding.{counts_for, events_for, is_last}
use Rattle.slot_picks.specs.Posting.{AreAlike, HaveRound}
use Rattle.slot_picks.proofs.giving.give_slots.Given as goal

abbrev pub invariant-slots : goal.invariant-slots
invariant-slots l = record {
  given : HaveRound (events_for (take l.w (chains_of l.slots)) (take l.w (map (λ x. values x.items) l.events))) (counts_for (take l.w (chains_of l.slots)) (take l.w (map (λ x. length x.items) l.fresh))) 0 l.fn.places.items l.places.items;
  alike : AreAlike l.fn.places.items l.places.items;
  others : (v : ℕ) → is_last v (chains_of l.slots) ≡ false → slice_get l.places.items v ≡ slice_get l.fn.places.items v;
}
