use Rattle.std.proofs.Common.{ℕ, ◌≡◌, ◌≤◌, Some, max, drop}
use Rattle.page_nodes.specs.Arenas.{nodes_in}
use Rattle.page_nodes.specs.Entries.{tree}
use Rattle.page_nodes.specs.Moves.{highest}
use Rattle.plain_tree.specs.Trees.{height}
use Rattle.page_nodes.proofs.arena.Arena.highest.Given as goal

-- the most so far and of the nodes still to come, and no more in the last one
abbrev pub invariant-each : goal.invariant-each
invariant-each l = record {
  most : max l.most (highest (nodes_in l.self) (drop l.node-index l.nodes)) ≡ highest (nodes_in l.self) l.nodes;
  last : (p : ℕ) → l.last ≡ Some p → height (tree (nodes_in l.self) p) ≤ l.most;
}
