use Rattle.std.proofs.Common.{◌≤◌, length, drop, reverse}
use Rattle.page_nodes.specs.Entries.{entries}
use Rattle.page_nodes.specs.Many.{AreAdded, last_ones}
use Rattle.page_nodes.specs.Room.{room_at}
use Rattle.page_nodes.proofs.many.hang_back.Given as goal

-- the nodes behind the place are added
abbrev pub invariant-back : goal.invariant-back
invariant-back l = record {
  order : l.left ≤ length l.nodes;
  added : AreAdded (entries l.initial.rows.items) (entries l.rows.items) l.target (reverse (last_ones (drop l.left l.nodes))) (drop l.left l.nodes);
  room : l.left ≤ room_at l.rows.items l.target;
}

abbrev pub decreases-back : goal.decreases-back
decreases-back l = l.left
