-- Trees of texts and elements, in which each node has a mark: its place, its number, or nothing.
-- A list of trees is one type, so that what is said of trees goes down and along in one recursion.
use Rattle.std.specs.Prelude.{ℕ, ◌+◌, List, [], ◌∷◌, Option, Some, None, max, if◌then◌else◌}
use Rattle.std.specs.Str.{bytes_eq}

-- the name and the value of an attribute
abbrev pub Attribute : Type 0
Attribute = List ℕ × List ℕ

-- what a node is: a text with its units, or an element with its tag and its attributes in order
pub data Label : Type 0 where
  TextOf : List ℕ → Label
  ElementOf : List ℕ → List Attribute → Label

-- no tree; or a node with its mark, its label and its children, and then the other trees
pub data Trees (Mark : Type 0) : Type 0 where
  End : Trees Mark
  Node : Mark → Label → Trees Mark → Trees Mark → Trees Mark

-- trees without marks
abbrev pub PlainTrees : Type 0
PlainTrees = Trees (Unit {0})

-- one list of trees after another
abbrev pub beside : {M : Type 0} → Trees M → Trees M → Trees M
beside End us = us
beside (Node m l ks ts) us = Node m l ks (beside ts us)

-- lists of trees, one after another
abbrev pub joined : {M : Type 0} → List (Trees M) → Trees M
joined [] = End
joined (t ∷ ts) = beside t (joined ts)

-- the same trees with other marks
abbrev pub marked : {M N : Type 0} → (M → N) → Trees M → Trees N
marked f End = End
marked f (Node m l ks ts) = Node (f m) l (marked f ks) (marked f ts)

-- the same trees without marks
abbrev pub unmarked : {M : Type 0} → Trees M → PlainTrees
unmarked ts = marked (λ _. tt) ts

-- how many nodes there are
abbrev pub size : {M : Type 0} → Trees M → ℕ
size End = 0
size (Node m l ks ts) = size ks + size ts + 1

-- how many nodes stand one above the other at most
abbrev pub height : {M : Type 0} → Trees M → ℕ
height End = 0
height (Node m l ks ts) = max (height ks + 1) (height ts)

-- how many elements stand one above the other at most
abbrev pub nesting : {M : Type 0} → Trees M → ℕ
nesting End = 0
nesting (Node m (TextOf us) ks ts) = nesting ts
nesting (Node m (ElementOf tag attrs) ks ts) = max (nesting ks + 1) (nesting ts)

-- the value of the first attribute with this name
abbrev pub value_of : List ℕ → List Attribute → Option (List ℕ)
value_of name [] = None
value_of name (a ∷ others) = if bytes_eq (a.0) name then Some (a.1) else value_of name others
