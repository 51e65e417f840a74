use Rattle.std.proofs.Common.{suc, ◌≡◌, ℕ, ◌+◌, ◌<◌, ◌≤◌, ◌-◌, length}
use Rattle.page_nodes.specs.Entries.{tree, limit, body}
use Rattle.page_nodes.specs.Arenas.{nodes_in}
use Rattle.page_nodes.specs.Trees.{level}
use Rattle.plain_tree.specs.Trees.{height}
use Rattle.page_nodes.proofs.arena.Arena.depth.Given as goal

-- the node stands depth - 1 below the place
abbrev pub invariant-up : goal.invariant-up
invariant-up l = record {
  other : l.place ≡ body → ⊥;
  is_in : l.place < length (nodes_in l.self);
  most : (x : ℕ) → (x ≡ body → ⊥) → level l.node (tree (nodes_in l.self) x) ≤ l.depth + (level l.place (tree (nodes_in l.self) x) - 1);
  reached : l.depth ≤ level l.node (tree (nodes_in l.self) l.place);
  positive : 0 < l.depth;
}

abbrev pub decreases-up : goal.decreases-up
decreases-up l = suc limit - height (tree (nodes_in l.self) l.place)
