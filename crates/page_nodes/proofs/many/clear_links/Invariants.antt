use Rattle.std.proofs.Common.{ℕ, ◌≤◌, ◌-◌, length}
use Rattle.page_nodes.specs.Entries.{entries}
use Rattle.page_nodes.specs.Room.{room_at}
use Rattle.page_nodes.proofs.Raised.{RaisedTo}
use Rattle.page_nodes.proofs.many.clear_links.Given as goal

-- those before the place are cleared
abbrev pub invariant-each : goal.invariant-each
invariant-each l = record {
  raised : RaisedTo (entries l.initial.rows.items) (entries l.rows.items) l.initial.nodes l.nodes l.place;
  room : (t : ℕ) → room_at l.initial.rows.items t ≤ room_at l.rows.items t;
}

abbrev pub decreases-each : goal.decreases-each
decreases-each l = length l.nodes - l.place
