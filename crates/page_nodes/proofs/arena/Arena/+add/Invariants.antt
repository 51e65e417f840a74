use Rattle.plain_tree.specs.Trees.{height}
use Rattle.plain_tree.specs.Plains.{unplaced}
use Rattle.page_nodes.specs.Arenas.{nodes_in}
use Rattle.page_nodes.proofs.Adds.{Growing}
use Rattle.page_nodes.proofs.arena.Arena.+add.Given as goal

abbrev pub decreases-add : goal.decreases-add
decreases-add l = height (unplaced l.plain.now)

abbrev pub invariant-each : goal.invariant-each
invariant-each l = Growing (nodes_in l.fn.self) (nodes_in l.self) l.top l.owner l.child-index (unplaced l.plain) l.child-items
