use Rattle.std.proofs.Common.{◌≤◌, take, length}
use Rattle.page_nodes.specs.Arenas.{nodes_in}
use Rattle.page_nodes.specs.Index.{IsIndex}
use Rattle.page_nodes.proofs.index.leave_from.Given as goal

-- the nodes before one are entered
abbrev pub invariant-back : goal.invariant-back
invariant-back l = record { low : l.from ≤ l.node; high : l.node ≤ length (nodes_in l.arena); index : IsIndex (take l.node (nodes_in l.arena)) l.ids }

abbrev pub decreases-back : goal.decreases-back
decreases-back l = l.node
