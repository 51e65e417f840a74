-- The children of a node are the tops below it.
use Rattle.std.proofs.Common.{◌≡◌, ℕ, List, [], ◌∷◌, ◌++◌, Option, None, refl, ap}
use Rattle.plain_tree.specs.Trees.{End, Node, Trees}
use Rattle.tree_ops.specs.Trees.{grafted, put_before, tops}
use Rattle.page_nodes.specs.Entries.{Entry, IsSound, at, tree}
use Rattle.page_nodes.proofs.Shows.{Shows, one_more, shows_tree}
use Rattle.page_image.proofs.Shown.{tops_shown}

pub tops_put : (us ts : Trees ℕ) → tops (put_before None us ts) ≡ tops ts ++ tops us
tops_put us End = refl
tops_put us (Node m l ks ts) = ap (λ ns. m ∷ ns) (tops_put us ts)

pub tops_grafted : (t : ℕ) (s : Option ℕ) (us ts : Trees ℕ) → tops (grafted t s us ts) ≡ tops ts
tops_grafted t s us End = refl
tops_grafted t s us (Node m l ks ts) = ap (λ ns. m ∷ ns) (tops_grafted t s us ts)

-- the tops below the first node
abbrev pub kids : Trees ℕ → List ℕ
kids End = []
kids (Node n l ks ts) = tops ks

kids_shown : (k : List Entry) (n : ℕ) (ns : List ℕ) (us : Trees ℕ) → Shows k (n ∷ ns) us → kids us ≡ (at k n).children
kids_shown k n ns _ (one_more {ks = ks} hk hs) = tops_shown k (at k n).children ks hk

pub children_are : (k : List Entry) → IsSound k → (n : ℕ) → kids (tree k n) ≡ (at k n).children
children_are k s n = kids_shown k n [] (tree k n) (shows_tree k s n)
