use Rattle.std.proofs.Common.{ℕ, suc, ◌≡◌, ◌<◌, ◌-◌, length, true}
use Rattle.page_nodes.specs.Entries.{listed, tree, limit}
use Rattle.page_nodes.specs.Arenas.{nodes_in}
use Rattle.tree_ops.specs.Trees.{has}
use Rattle.plain_tree.specs.Trees.{height}
use Rattle.page_nodes.proofs.arena.Arena.is_in_any.Given as goal

-- the node is in the tree of the place, and the place is in the tree of each top that has the node
abbrev pub invariant-up : goal.invariant-up
invariant-up l = record {
  is_in : l.place < length (nodes_in l.self);
  above : has l.node (tree (nodes_in l.self) l.place) ≡ true;
  still : (t : ℕ) → listed t l.tops ≡ true → has l.node (tree (nodes_in l.self) t) ≡ true → has l.place (tree (nodes_in l.self) t) ≡ true;
}

abbrev pub decreases-up : goal.decreases-up
decreases-up l = suc limit - height (tree (nodes_in l.self) l.place)
