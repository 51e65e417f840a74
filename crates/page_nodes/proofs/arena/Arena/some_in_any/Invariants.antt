use Rattle.std.proofs.Common.{ℕ, ◌≡◌, Some, false, take}
use Rattle.std.specs.List.{list_any}
use Rattle.page_nodes.specs.Arenas.{nodes_in}
use Rattle.page_nodes.specs.Entries.{tree}
use Rattle.tree_ops.specs.Trees.{has}
use Rattle.page_nodes.proofs.arena.Arena.some_in_any.Given as goal

-- none of those so far does, nor does what stands above the last of them
abbrev pub invariant-each : goal.invariant-each
invariant-each l = record {
  none : list_any (λ n. list_any (λ t. has n (tree (nodes_in l.self) t)) l.tops) (take l.node-index l.nodes) ≡ false;
  apart : (a : ℕ) → l.apart ≡ Some a → list_any (λ t. has a (tree (nodes_in l.self) t)) l.tops ≡ false;
}
