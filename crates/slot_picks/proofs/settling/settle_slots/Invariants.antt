use Rattle.std.proofs.Common.{◌≡◌, ℕ, ◌+◌, map}
use Rattle.life_laws.specs.Journal.{ready_from, weights}
use Rattle.life_laws.specs.Chains.{last_life}
use Rattle.life_laws.specs.Settled.{SettledSlots, slot_flags, waiting}
use Rattle.slot_picks.specs.Lives.{AreHoused, FewLives, KeepsSlots, PicksOn, chains_of, seens_of}
use Rattle.slot_picks.specs.Places.{homes_of}
use Rattle.slot_picks.proofs.settling.settle_slots.Given as goal

abbrev pub invariant-picks : goal.invariant-picks
invariant-picks g l = record {
  settled : SettledSlots l.slice (homes_of l.initial.lives.places.items) (chains_of l.initial.slots.items) (chains_of l.slots.items) (seens_of l.initial.lives) (seens_of l.lives) l.initial.lives.journal.items l.lives.journal.items (g.C.Chooser.asks l.initial.chooser) (g.C.Chooser.room l.initial.chooser) (g.C.Chooser.asks l.chooser) (g.C.Chooser.room l.chooser);
  picks : PicksOn l.slice l.initial.lives l.initial.slots l.lives l.slots;
  list : l.ready.items ≡ ready_from 0 (slot_flags (seens_of l.lives) (chains_of l.slots.items));
  housed : (born : ℕ) → AreHoused born l.initial.lives l.initial.slots.items → AreHoused born l.lives l.slots.items;
  few : (n : ℕ) → FewLives n l.initial.lives → FewLives n l.lives;
  stays : KeepsSlots l.initial.lives l.lives l.initial.slots.items l.slots.items;
  lasts : map last_life (chains_of l.slots.items) ≡ map last_life (chains_of l.initial.slots.items);
}

abbrev pub decreases-picks : goal.decreases-picks
decreases-picks g l = weights (seens_of l.lives) + waiting (chains_of l.slots.items)
