-- What a walk takes.
use Rattle.std.specs.Prelude.{◌≡◌, ℕ, ◌<◌, ◌+◌, ◌≤◌, List, [], ◌∷◌, Bool, true, false, ◌&&◌, ◌||◌, ◌++◌, if◌then◌else◌, length, Option, Some, is_some, not}
use Rattle.std.specs.List.{filter, flat_map, list_any}
use Rattle.code_units.specs.declared.owner.Owner.{Owner}
use Rattle.page_tree.specs.declared.page.Page.{Page}
use Rattle.page_tree.specs.Entries.{Entry, at}
use Rattle.page_tree.specs.Owners.{same_owner}
use Rattle.page_tree.specs.Pages.{nodes, root}
use Rattle.tree_ops.specs.Trees.{is_number}
use Rattle.query_grammar.specs.declared.query.Hunter.{Hunter}
use Rattle.query_walks.specs.declared.wanted.Wanted.{Wanted}
use Rattle.query_walks.specs.declared.wanted.Wanted.TheVariants as wanted
use Rattle.query_walks.specs.Nodes.{is_element}
use Rattle.query_grammar.specs.Finds.{has_number}
use Rattle.page_tree.specs.Documents.{within, below, document}
use Rattle.query_walks.specs.Finds.{is_tagged, has_id, hunted}

-- whether a walk takes a node
abbrev pub takes : List Entry → Wanted → ℕ → Bool
takes k wanted.Elements n = is_element k n
takes k (wanted.Tagged tag) n = is_tagged k tag.now n
takes k (wanted.Named id) n = has_id k id.now n
takes k (wanted.Among found above) n = has_number found.now n

-- whether a walk enters the tree of a node
abbrev pub enters : Wanted → ℕ → Bool
enters (wanted.Among found above) n = has_number above.now n
enters _ n = true

-- a walk misses nothing: it takes no node of a tree that it does not enter
abbrev pub MissesNone : Page → Wanted → Type 0
MissesNone p w = (n : ℕ) → enters w n ≡ false → filter (takes (nodes p) w) (within (nodes p) n) ≡ []

-- the numbers are nodes
abbrev pub AreNodes : Page → List ℕ → Type 0
AreNodes p ns = (n : ℕ) → has_number ns n ≡ true → n < length (nodes p)

-- a node in the set has its parent there
abbrev pub IsClosed : Page → List ℕ → Type 0
IsClosed p ns = (n m : ℕ) → has_number ns n ≡ true → (at (nodes p) n).parent ≡ Some m → has_number ns m ≡ true

-- the tops among the nodes of a set
abbrev pub AreTops : Page → List ℕ → List ℕ → Type 0
AreTops p ns tops = (n : ℕ) → has_number tops n ≡ (has_number ns n && not (is_some (at (nodes p) n).parent))

-- whether a node is below one of these
abbrev pub below_any : List Entry → List ℕ → ℕ → Bool
below_any k ns n = list_any (λ s. has_number (below k s) n) ns

-- a walk adds what it takes of these nodes
abbrev pub TakesOf : List Entry → Wanted → List ℕ → List ℕ → List ℕ → Type 0
TakesOf k w ns old new = new ≡ old ++ filter (takes k w) ns

-- the nodes that a hunter finds from starts, in any order
abbrev pub AreHunted : List Entry → Option ℕ → Hunter → List ℕ → List ℕ → Type 0
AreHunted k r h starts ns = (n : ℕ) → has_number ns n ≡ has_number (flat_map (hunted k r h) starts) n

-- two lists have the same of the owner's trees
abbrev pub HaveSame : Page → Owner → List ℕ → List ℕ → Type 0
HaveSame p o ns ms = (n : ℕ) → has_number (document (nodes p) (root p o) o) n ≡ true → has_number ns n ≡ has_number ms n

-- what a hunter finds in the trees of an owner, in any order
abbrev pub AreHuntedOf : Page → Owner → Hunter → List ℕ → List ℕ → Type 0
AreHuntedOf p o h starts ns = HaveSame p o ns (flat_map (hunted (nodes p) (root p o) h) starts)

-- the nodes are a single one, and the owner's
abbrev pub is_one_of : List Entry → Owner → List ℕ → Bool
is_one_of k o (n ∷ []) = same_owner (at k n).owner o
is_one_of k o _ = false

-- one of the starts that have siblings
abbrev pub is_start : Option ℕ → List ℕ → ℕ → Bool
is_start r starts n = has_number starts n && not (is_number n r)

-- Of siblings, the elements that come next behind those that pass a test. `met` says whether such a one stands before them, without an element between.
abbrev pub next_ones : List Entry → (ℕ → Bool) → Bool → List ℕ → List ℕ
next_ones k t met [] = []
next_ones k t met (n ∷ ns) = (if met && is_element k n then n ∷ [] else []) ++ next_ones k t (t n || (met && not (is_element k n))) ns

-- the numbers rise, from this one on
abbrev pub RiseFrom : ℕ → List ℕ → Type 0
RiseFrom a [] = Unit {0}
RiseFrom a (n ∷ ns) = (a ≤ n) × RiseFrom (n + 1) ns
