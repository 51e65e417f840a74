-- The nodes of the arena, and the trees that are read off them.
use Rattle.std.specs.Prelude.{◌≡◌, ℕ, zero, suc, ◌<◌, ◌≤◌, List, [], ◌∷◌, map, length, slice_index_or, codes, Option, Some, None, Bool, true, false, not, ◌&&◌, ◌||◌, ◌==◌, if◌then◌else◌}
use Rattle.std.specs.List.{filter}
use Rattle.code_units.specs.declared.owner.Owner.{Owner}
use Rattle.code_units.specs.declared.owner.Owner.TheVariants as owner
use Rattle.page_nodes.specs.declared.rows.Row.{Row}
use Rattle.page_nodes.specs.declared.rows.Content.{Content}
use Rattle.page_nodes.specs.declared.rows.Content.TheVariants as content
use Rattle.plain_tree.specs.Trees.{Label, TextOf, ElementOf, Trees, End, Node}
use Rattle.tree_ops.specs.Labels.{is_text}
use Rattle.tree_ops.specs.Trees.{is_number}
use Rattle.page_nodes.specs.Owners.{is_owner, same_owner}

-- a node with its links
pub record Entry : Type 0 where
  pub owner : Owner
  pub parent : Option ℕ
  pub children : List ℕ
  pub label : Label

-- what a node is, as the label of a plain tree
abbrev pub label_of : Content → Label
label_of (content.Element tag attributes) = ElementOf tag attributes.items
label_of (content.Text text) = TextOf text

-- a row as a node with its links
abbrev pub entry_of : Row → Entry
entry_of r = record { owner = r.owner; parent = r.parent; children = r.children.items; label = label_of r.content }

-- all rows
abbrev pub entries : List Row → List Entry
entries rows = map entry_of rows

-- what stands for a node under a number that none has
abbrev pub no_entry : Entry
no_entry = record { owner = owner.Host; parent = None; children = []; label = TextOf [] }

-- the node with a number
abbrev pub at : List Entry → ℕ → Entry
at k n = slice_index_or k n no_entry

-- the host's `body`
abbrev pub body : ℕ
body = 0

-- as it is made: the host's, without children
abbrev pub body_entry : Entry
body_entry = record { owner = owner.Host; parent = None; children = []; label = ElementOf (codes "body") [] }

-- whether a number is in a list
abbrev pub listed : ℕ → List ℕ → Bool
listed n [] = false
listed n (m ∷ ms) = (m == n) || listed n ms

-- no number stands twice
abbrev pub distinct : List ℕ → Bool
distinct [] = true
distinct (m ∷ ms) = not (listed m ms) && distinct ms

-- a list without a number
abbrev pub minus : ℕ → List ℕ → List ℕ
minus n ms = filter (λ m. not (m == n)) ms

-- a list with a number more, before another or behind the last
abbrev pub before : Option ℕ → ℕ → List ℕ → List ℕ
before s n [] = n ∷ []
before s n (m ∷ ms) = if is_number m s then n ∷ m ∷ ms else m ∷ before s n ms

-- the trees of these nodes, read down to a depth
abbrev pub read : List Entry → ℕ → List ℕ → Trees ℕ
read k f [] = End
read k zero (n ∷ ns) = End
read k (suc f) (n ∷ ns) = Node n (at k n).label (read k f (at k n).children) (read k (suc f) ns)

-- whether no node is deeper
abbrev pub fits : List Entry → ℕ → List ℕ → Bool
fits k f [] = true
fits k zero (n ∷ ns) = false
fits k (suc f) (n ∷ ns) = fits k f (at k n).children && fits k (suc f) ns

-- so many nodes may stand one above the other, `body` not counted
unfoldable pub limit : ℕ
limit = 201

-- the tree of a node
abbrev pub tree : List Entry → ℕ → Trees ℕ
tree k n = read k (suc limit) (n ∷ [])

-- Each node has a number; the links agree; no node is too deep, and so none is below itself; what is below a node has its owner, but under `body`.
pub record IsSound (k : List Entry) : Type 0 where
  pub some : 0 < length k
  pub few : length k ≤ 2147483648
  pub top : (at k body).parent ≡ None
  pub host : same_owner (at k body).owner owner.Host ≡ true
  pub element : is_text (at k body).label ≡ false
  pub fit : (n : ℕ) → (n ≡ body → ⊥) → fits k limit (n ∷ []) ≡ true
  pub down : (n c : ℕ) → listed c (at k n).children ≡ true → (at k c).parent ≡ Some n
  pub upward : (n p : ℕ) → (at k n).parent ≡ Some p → listed n (at k p).children ≡ true
  pub owned : (n p : ℕ) → (at k n).parent ≡ Some p → (same_owner (at k n).owner (at k p).owner || (p == body)) ≡ true
  pub once : (n : ℕ) → distinct (at k n).children ≡ true
  pub texts : (n : ℕ) → is_text (at k n).label ≡ true → length (at k n).children ≡ 0

-- each node has an owner of the page
abbrev pub AreOwners : List Entry → Type 0
AreOwners k = (n : ℕ) → is_owner (at k n).owner ≡ true
