use Rattle.std.proofs.Common.{◌≡◌, ℕ, ◌<◌, length}
use Rattle.std.specs.Prelude.{slice_set}
use Rattle.life_laws.specs.Slots.{Passed}
use Rattle.slot_picks.specs.Lives.{FewLives, FineLives, KeepsSlots, chains_of, seens_of}
use Rattle.slot_picks.proofs.Following.{lives_at}
use Rattle.slot_picks.proofs.slots.pick_slot.Given as goal

abbrev pub invariant-swaps : goal.invariant-swaps
invariant-swaps l = record {
  passed : Passed (lives_at l.w l.initial.slots.items) (seens_of l.initial.lives) (seens_of l.lives) l.initial.lives.journal.items (lives_at l.w l.slots.items);
  chains : chains_of l.slots.items ≡ slice_set (chains_of l.initial.slots.items) l.w (lives_at l.w l.slots.items);
  journal : l.lives.journal.items ≡ l.initial.lives.journal.items;
  some : 0 < length (lives_at l.w l.slots.items);
  fine : FineLives l.lives;
  few : (n : ℕ) → FewLives n l.initial.lives → FewLives n l.lives;
  stays : KeepsSlots l.initial.lives l.lives l.initial.slots.items l.slots.items;
}

abbrev pub decreases-swaps : goal.decreases-swaps
decreases-swaps l = length (lives_at l.w l.slots.items)
