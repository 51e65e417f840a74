-- What is done to trees whose nodes have numbers, where only the page does it.
use Rattle.std.specs.Prelude.{ℕ, zero, suc, ◌+◌, List, [], ◌∷◌, max, ◌==◌, if◌then◌else◌}
use Rattle.plain_tree.specs.Trees.{Trees, End, Node}
use Rattle.tree_ops.specs.Trees.{without}

-- one level further down; 0 stays
abbrev pub deeper : ℕ → ℕ
deeper zero = 0
deeper (suc k) = k + 2

-- where a node stands: 1 for a top, 0 where it is not there
abbrev pub level : ℕ → Trees ℕ → ℕ
level n End = 0
level n (Node m l ks ts) = max (max (if m == n then 1 else 0) (deeper (level n ks))) (level n ts)

-- the trees without a node and all below it, but with all tops
abbrev pub pruned : ℕ → Trees ℕ → Trees ℕ
pruned n End = End
pruned n (Node m l ks ts) = Node m l (without n ks) (pruned n ts)

-- the same of several nodes, one after the other
abbrev pub all_pruned : List ℕ → Trees ℕ → Trees ℕ
all_pruned [] ts = ts
all_pruned (n ∷ ns) ts = all_pruned ns (pruned n ts)
