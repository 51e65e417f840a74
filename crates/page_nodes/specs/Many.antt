-- Many nodes are moved at once.
use Rattle.std.specs.Prelude.{◌≡◌, ℕ, ◌-◌, ◌<◌, List, length, slice_index, [], ◌∷◌, ◌++◌, Option, Some, None, is_some, not, ◌&&◌, ◌==◌, if◌then◌else◌, take, drop, reverse, true}
use Rattle.std.specs.List.{filter}
use Rattle.tree_ops.specs.Trees.{is_number}
use Rattle.page_nodes.specs.Entries.{Entry, at, listed}
use Rattle.page_nodes.specs.Moves.{KeepsNodes}

-- a list without the numbers of another
abbrev pub outside : List ℕ → List ℕ → List ℕ
outside ns xs = filter (λ c. not (listed c ns)) xs

-- each number where it stands last
abbrev pub last_ones : List ℕ → List ℕ
last_ones [] = []
last_ones (n ∷ ns) = if listed n ns then last_ones ns else n ∷ last_ones ns

-- a list with others put in: before a number or behind the last
abbrev pub spliced : Option ℕ → List ℕ → List ℕ → List ℕ
spliced s ns [] = ns
spliced s ns (x ∷ xs) = if is_number x s then ns ++ x ∷ xs else x ∷ spliced s ns xs

-- a node, if it has no parent
abbrev pub if_top : Option ℕ → ℕ → List ℕ
if_top parent n = if is_some parent then [] else n ∷ []

-- a list whose end from a place on is turned round
abbrev pub backward : ℕ → List ℕ → List ℕ
backward from xs = take from xs ++ reverse (drop from xs)

-- a list whose part from one place up to another stands behind all else
abbrev pub put_off : ℕ → ℕ → List ℕ → List ℕ
put_off from to xs = take from xs ++ (drop (to - from) (drop from xs) ++ take (to - from) (drop from xs))

-- those of a list that have a parent
abbrev pub below : List Entry → List ℕ → List ℕ
below k xs = filter (λ c. is_some (at k c).parent) xs

-- the links up are cleared of nodes, and the parents that they had are in a list
pub record AreRaised (old new : List Entry) (ns ps : List ℕ) : Type 0 where
  pub kept : KeepsNodes old new
  pub children : (x : ℕ) → (at new x).children ≡ (at old x).children
  pub parents : (x : ℕ) → (at new x).parent ≡ (if listed x ns then None else (at old x).parent)
  pub told : (n p : ℕ) → listed n ns ≡ true → (at old n).parent ≡ Some p → listed p ps ≡ true

-- those children are taken from nodes that have no parent
pub record AreTidied (old new : List Entry) (ps : List ℕ) : Type 0 where
  pub kept : KeepsNodes old new
  pub children : (x : ℕ) → (at new x).children ≡ (if listed x ps then below old (at old x).children else (at old x).children)
  pub parents : (x : ℕ) → (at new x).parent ≡ (at old x).parent

-- the links up are cleared of those nodes that are in both lists
pub record AreCleared (old new : List Entry) (ns xs : List ℕ) : Type 0 where
  pub kept : KeepsNodes old new
  pub children : (x : ℕ) → (at new x).children ≡ (at old x).children
  pub parents : (x : ℕ) → (at new x).parent ≡ (if listed x ns && listed x xs then None else (at old x).parent)

-- those children are taken from a node that are in a list
pub record IsSwept (old new : List Entry) (ns : List ℕ) (p : ℕ) : Type 0 where
  pub kept : KeepsNodes old new
  pub children : (x : ℕ) → (at new x).children ≡ (if x == p then outside ns (at old x).children else (at old x).children)
  pub parents : (x : ℕ) → (at new x).parent ≡ (if listed x ns && listed x (at old p).children then None else (at old x).parent)

-- nodes are taken from their parents
pub record AreCut (old new : List Entry) (ns : List ℕ) : Type 0 where
  pub kept : KeepsNodes old new
  pub children : (x : ℕ) → (at new x).children ≡ outside ns (at old x).children
  pub parents : (x : ℕ) → (at new x).parent ≡ (if listed x ns then None else (at old x).parent)

-- none of these nodes has a parent
abbrev pub AreTops : List Entry → List ℕ → Type 0
AreTops k ns = (i : ℕ) → i < length ns → (at k (slice_index ns i)).parent ≡ None

-- nodes without a parent stand behind the last child of a target, each once and the last of them first
pub record AreAdded (old new : List Entry) (t : ℕ) (ms ns : List ℕ) : Type 0 where
  pub kept : KeepsNodes old new
  pub children : (x : ℕ) → (at new x).children ≡ (if x == t then (at old x).children ++ ms else (at old x).children)
  pub parents : (x : ℕ) → (at new x).parent ≡ (if listed x ns then Some t else (at old x).parent)

-- nodes without a parent are put among the children of a target: before a child, or behind the last
pub record AreHung (old new : List Entry) (t : ℕ) (s : Option ℕ) (ns : List ℕ) : Type 0 where
  pub kept : KeepsNodes old new
  pub children : (x : ℕ) → (at new x).children ≡ (if x == t then spliced s (last_ones ns) (at old x).children else (at old x).children)
  pub parents : (x : ℕ) → (at new x).parent ≡ (if listed x ns then Some t else (at old x).parent)
