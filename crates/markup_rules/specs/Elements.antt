-- Trees as lists of elements and of items.
use Rattle.std.specs.Prelude.{ℕ, Bool, false, List, [], ◌∷◌, ◌++◌, Option, nat_eq, ◌||◌, ◌&&◌, not, codes, if◌then◌else◌, is_some, filter, find}
use Rattle.std.specs.List.{list_all}
use Rattle.std.specs.Str.{bytes_eq}
use Rattle.plain_tree.specs.declared.plain.Attr.{Attr}
use Rattle.plain_tree.specs.Trees.{Attribute, TextOf, ElementOf, Trees, End, Node}
use Rattle.plain_tree.specs.Plains.{Places}

-- ## Elements

-- attributes with their places
abbrev pub spots : List Attribute → List (ℕ × ℕ) → List Attr
spots [] ps = []
spots (a ∷ rest) [] = []
spots (a ∷ rest) (p ∷ ps) = record { name = a.0; value = a.1; at = p.0; value_at = p.1 } ∷ spots rest ps

-- an element: where it begins, its tag, its attributes and its children
pub record Element : Type 0 where
  pub at : ℕ
  pub tag : List ℕ
  pub attrs : List Attr
  pub kids : Trees Places

-- the element of a node's parts
abbrev pub element : Places → List ℕ → List Attribute → Trees Places → Element
element m tag attrs ks = record { at = m.at; tag = tag; attrs = spots attrs m.attrs; kids = ks }

-- the elements of these trees, each before those below it, in order
abbrev pub elements : Trees Places → List Element
elements End = []
elements (Node m (TextOf us) ks ts) = elements ts
elements (Node m (ElementOf tag attrs) ks ts) = element m tag attrs ks ∷ (elements ks ++ elements ts)

-- the same without those that stand below another
abbrev pub tops : Trees Places → List Element
tops End = []
tops (Node m (TextOf us) ks ts) = tops ts
tops (Node m (ElementOf tag attrs) ks ts) = element m tag attrs ks ∷ tops ts

-- the tags of the root and of a script
abbrev pub is_div : List ℕ → Bool
is_div tag = bytes_eq tag (codes "div")

abbrev pub is_script : List ℕ → Bool
is_script tag = bytes_eq tag (codes "script")

-- the root: the first `div` of the file
abbrev pub roots : Trees Places → List Element
roots End = []
roots (Node m (TextOf us) ks ts) = roots ts
roots (Node m (ElementOf tag attrs) ks ts) = if is_div tag then element m tag attrs ks ∷ [] else roots ts

-- the elements of the file other than the root, in order
abbrev pub others : Trees Places → List Element
others End = []
others (Node m (TextOf us) ks ts) = others ts
others (Node m (ElementOf tag attrs) ks ts) = if is_div tag then elements ks ++ elements ts else element m tag attrs ks ∷ (elements ks ++ others ts)

-- ## Attributes

-- the attribute has this name
abbrev pub is_named : List ℕ → Attr → Bool
is_named word a = bytes_eq a.name word

-- the first attribute with this name
abbrev pub first_named : List ℕ → List Attr → Option Attr
first_named word attrs = find (is_named word) attrs

-- an attribute with this name stands in the element
abbrev pub has_named : List ℕ → Element → Bool
has_named word e = is_some (first_named word e.attrs)

-- ## Scripts

-- an element that is a script
abbrev pub is_script_element : Element → Bool
is_script_element e = is_script e.tag

-- the scripts among the children of an element
abbrev pub scripts : Element → List Element
scripts e = filter is_script_element (tops e.kids)

-- a script with a `src`
abbrev pub is_sourced : Element → Bool
is_sourced e = has_named (codes "src") e

-- the trees before the first script
abbrev pub before_scripts : Trees Places → Trees Places
before_scripts End = End
before_scripts (Node m (TextOf us) ks ts) = Node m (TextOf us) ks (before_scripts ts)
before_scripts (Node m (ElementOf tag attrs) ks ts) = if is_script tag then End else Node m (ElementOf tag attrs) ks (before_scripts ts)

-- the root with the children before its first script
abbrev pub body_of : Trees Places → Trees Places
body_of End = End
body_of (Node m (TextOf us) ks ts) = body_of ts
body_of (Node m (ElementOf tag attrs) ks ts) = if is_div tag then Node m (ElementOf tag attrs) (before_scripts ks) End else body_of ts

-- ## Items

-- a space, a tab, CR or LF
abbrev pub is_blank_unit : ℕ → Bool
is_blank_unit u = nat_eq u 32 || nat_eq u 9 || nat_eq u 13 || nat_eq u 10

-- space, tab, CR and LF alone
abbrev pub is_blank : List ℕ → Bool
is_blank us = list_all is_blank_unit us

-- a node that is no blank text: a text where it stands, or an element
pub data Item : Type 0 where
  AText : ℕ → Item
  AnElement : Element → Item

-- where it stands
abbrev pub item_at : Item → ℕ
item_at (AText at) = at
item_at (AnElement e) = e.at

-- those of these trees, without those below them, in order
abbrev pub items : Trees Places → List Item
items End = []
items (Node m (TextOf us) ks ts) = if is_blank us then items ts else AText m.at ∷ items ts
items (Node m (ElementOf tag attrs) ks ts) = AnElement (element m tag attrs ks) ∷ items ts

-- it is a script, or a `div`
abbrev pub is_script_item : Item → Bool
is_script_item (AText at) = false
is_script_item (AnElement e) = is_script e.tag

abbrev pub is_div_item : Item → Bool
is_div_item (AText at) = false
is_div_item (AnElement e) = is_div e.tag

-- a script without a `src`
abbrev pub is_own_script : Item → Bool
is_own_script (AText at) = false
is_own_script (AnElement e) = is_script e.tag && not (is_sourced e)
