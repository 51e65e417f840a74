use Rattle.std.proofs.Common.{◌≡◌, max, drop}
use Rattle.page_nodes.specs.Entries.{tree, at}
use Rattle.page_nodes.specs.Arenas.{nodes_in}
use Rattle.plain_tree.specs.Trees.{height}
use Rattle.page_nodes.specs.Moves.{highest}
use Rattle.page_nodes.proofs.arena.Arena.+height.Given as goal

abbrev pub decreases-height : goal.decreases-height
decreases-height l = height (tree (nodes_in l.self.now) l.node)

-- the most so far and of the children still to come
abbrev pub invariant-each : goal.invariant-each
invariant-each l = record {
  items : l.child-items ≡ (at (nodes_in l.self) l.node).children;
  most : max l.most (highest (nodes_in l.self) (drop l.child-index l.child-items)) ≡ highest (nodes_in l.self) (at (nodes_in l.self) l.node).children;
}
