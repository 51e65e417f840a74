-- The nodes of one widget among those of the page, and its trees.
use Rattle.std.specs.Prelude.{ℕ, zero, suc, ◌+◌, List, [], ◌∷◌, map, Option, Bool, if◌then◌else◌}
use Rattle.code_units.specs.declared.owner.Owner.TheVariants as owner
use Rattle.plain_tree.specs.Trees.{Trees, joined, marked}
use Rattle.page_nodes.specs.Entries.{Entry, at, tree}
use Rattle.page_nodes.specs.Owners.{same_owner}
use Rattle.page_tree.specs.Documents.{tops}

-- whether a node is a widget's
abbrev pub is_own : List Entry → ℕ → ℕ → Bool
is_own k w n = same_owner (at k n).owner (owner.Widget w)

-- how many nodes of a widget are older: the own number of a node
abbrev pub own_number : List Entry → ℕ → ℕ → ℕ
own_number [] w n = 0
own_number (e ∷ k) w zero = 0
own_number (e ∷ k) w (suc n) = (if same_owner e.owner (owner.Widget w) then 1 else 0) + own_number k w n

-- the widget's nodes by birth, where the first node has this number
abbrev pub own_nodes_from : ℕ → List Entry → ℕ → List ℕ
own_nodes_from a [] w = []
own_nodes_from a (e ∷ k) w =
    if same_owner e.owner (owner.Widget w) then a ∷ own_nodes_from (a + 1) k w else own_nodes_from (a + 1) k w

-- of all nodes
abbrev pub own_nodes : List Entry → ℕ → List ℕ
own_nodes k w = own_nodes_from 0 k w

-- the trees of these tops
abbrev pub trees_of : List Entry → List ℕ → Trees ℕ
trees_of k ns = joined (map (tree k) ns)

-- a widget's trees with the page's numbers: the root's first, and then the others by the age of their tops
abbrev pub page_forest : List Entry → Option ℕ → ℕ → Trees ℕ
page_forest k r w = trees_of k (tops k r (owner.Widget w))

-- the same with own numbers
abbrev pub own_forest : List Entry → Option ℕ → ℕ → Trees ℕ
own_forest k r w = marked (own_number k w) (page_forest k r w)
