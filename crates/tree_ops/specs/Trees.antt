-- What is done to trees whose nodes have numbers.
use Rattle.std.specs.Prelude.{ℕ, ◌+◌, List, [], ◌∷◌, ◌++◌, Option, Some, None, Bool, false, ◌||◌, ◌==◌, if◌then◌else◌}
use Rattle.std.specs.Option.{option_or, unwrap_or}
use Rattle.plain_tree.specs.Trees.{Label, Trees, End, Node, beside, size}
use Rattle.tree_ops.specs.Labels.{copied_label}

-- ## What is there

-- the numbers in document order
abbrev pub numbers : Trees ℕ → List ℕ
numbers End = []
numbers (Node n l ks ts) = n ∷ (numbers ks ++ numbers ts)

-- the numbers of the tops
abbrev pub tops : Trees ℕ → List ℕ
tops End = []
tops (Node n l ks ts) = n ∷ tops ts

-- whether a number stands in trees
abbrev pub has : ℕ → Trees ℕ → Bool
has n End = false
has n (Node m l ks ts) = (m == n) || (has n ks || has n ts)

-- the tree of a node: the node with what is below it
abbrev pub tree_of : ℕ → Trees ℕ → Option (Trees ℕ)
tree_of n End = None
tree_of n (Node m l ks ts) = if m == n then Some (Node m l ks End) else option_or (tree_of n ks) (tree_of n ts)

-- the same as trees, none where it does not stand
abbrev pub subtree : ℕ → Trees ℕ → Trees ℕ
subtree n ts = unwrap_or (tree_of n ts) End

-- ## What is changed

-- without a node and all below it
abbrev pub without : ℕ → Trees ℕ → Trees ℕ
without n End = End
without n (Node m l ks ts) = if m == n then without n ts else Node m l (without n ks) (without n ts)

-- with another label at a node
abbrev pub relabelled : ℕ → Label → Trees ℕ → Trees ℕ
relabelled n v End = End
relabelled n v (Node m l ks ts) = Node m (if m == n then v else l) (relabelled n v ks) (relabelled n v ts)

-- whether this is the number
abbrev pub is_number : ℕ → Option ℕ → Bool
is_number m None = false
is_number m (Some s) = m == s

-- a list of trees with further trees before the one with a number, or behind the last
abbrev pub put_before : Option ℕ → Trees ℕ → Trees ℕ → Trees ℕ
put_before s us End = us
put_before s us (Node m l ks ts) = if is_number m s then beside us (Node m l ks ts) else Node m l ks (put_before s us ts)

-- with further trees among the children of a node: before the child with a number, or behind the last
abbrev pub grafted : ℕ → Option ℕ → Trees ℕ → Trees ℕ → Trees ℕ
grafted t s us End = End
grafted t s us (Node m l ks ts) = Node m l (if m == t then put_before s us (grafted t s us ks) else grafted t s us ks) (grafted t s us ts)

-- ## What is made anew

-- with numbers from this one on, in document order
abbrev pub numbered : {M : Type 0} → ℕ → Trees M → Trees ℕ
numbered n End = End
numbered n (Node m l ks ts) = Node n l (numbered (n + 1) ks) (numbered (n + 1 + size ks) ts)

-- a copy, whose marks are still those of the originals
abbrev pub copied : {M : Type 0} → Trees M → Trees M
copied End = End
copied (Node m l ks ts) = Node m (copied_label l) (copied ks) (copied ts)
