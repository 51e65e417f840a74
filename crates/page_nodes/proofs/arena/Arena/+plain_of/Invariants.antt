use Rattle.std.proofs.Common.{◌≡◌, ◌≤◌, drop, length}
use Rattle.plain_tree.specs.Trees.{height, beside}
use Rattle.plain_tree.specs.Plains.{unplaced_all}
use Rattle.page_nodes.specs.Entries.{tree, at}
use Rattle.page_nodes.specs.Arenas.{nodes_in}
use Rattle.page_nodes.proofs.Plains.{taken_at}
use Rattle.page_nodes.proofs.arena.Arena.+plain_of.Given as goal

abbrev pub decreases-plain_of : goal.decreases-plain_of
decreases-plain_of l = height (tree (nodes_in l.self.now) l.node)

-- the plain trees so far, and those still to come
abbrev pub invariant-each : goal.invariant-each
invariant-each l = record {
  items : l.child-items ≡ (at (nodes_in l.self) l.node).children;
  count : length l.plains.items ≡ l.child-index;
  bound : l.child-index ≤ length l.child-items;
  same : beside (unplaced_all l.plains.items) (taken_at (nodes_in l.self) l.ids (drop l.child-index l.child-items)) ≡ taken_at (nodes_in l.self) l.ids (at (nodes_in l.self) l.node).children;
}
