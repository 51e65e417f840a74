use Rattle.std.proofs.Common.{ℕ, ◌≡◌, ◌≤◌, Some, true, take}
use Rattle.page_nodes.specs.Entries.{entries, listed}
use Rattle.page_nodes.specs.Many.{AreTidied}
use Rattle.page_nodes.specs.Room.{room_at}
use Rattle.page_nodes.proofs.many.tidy_all.Given as goal

-- those so far are tidied, the last of them too
abbrev pub invariant-each : goal.invariant-each
invariant-each l = record {
  tidied : AreTidied (entries l.initial.rows.items) (entries l.rows.items) (take l.parent-index l.parents);
  last : (q : ℕ) → l.last ≡ Some q → listed q (take l.parent-index l.parents) ≡ true;
  room : (t : ℕ) → room_at l.initial.rows.items t ≤ room_at l.rows.items t;
}
