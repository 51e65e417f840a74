-- Plain trees with their places, and without.
use Rattle.std.specs.Prelude.{ℕ, List, [], map}
use Rattle.plain_tree.specs.declared.plain.Attr.{Attr}
use Rattle.plain_tree.specs.declared.plain.Plain.{Plain}
use Rattle.plain_tree.specs.declared.plain.Plain.TheOpen.{Plain-F, Text, Element}
use Rattle.plain_tree.specs.declared.plain.Plain.TheFolds.{fold-Plain}
use Rattle.plain_tree.specs.Trees.{Attribute, TextOf, ElementOf, Trees, End, Node, PlainTrees, joined, unmarked}

-- the places of a node: where it begins, and where the name and the value of each attribute begin
pub record Places : Type 0 where
  pub at : ℕ
  pub attrs : List (ℕ × ℕ)

-- without its places
abbrev pub attribute_of : Attr → Attribute
attribute_of a = (a.name, a.value)

-- where its name and its value begin
abbrev pub places_of : Attr → ℕ × ℕ
places_of a = (a.at, a.value_at)

-- a text
abbrev pub text_node : List ℕ → ℕ → Trees Places
text_node text at = Node (record { at = at; attrs = [] }) (TextOf text) End End

-- an element
abbrev pub element_node : List ℕ → List Attr → Trees Places → ℕ → Trees Places
element_node tag attrs kids at =
    Node (record { at = at; attrs = map places_of attrs }) (ElementOf tag (map attribute_of attrs)) kids End

-- one layer of a plain tree, over its children
abbrev pub placed_step : Plain-F (Trees Places) → Trees Places
placed_step (Text text at) = text_node text at
placed_step (Element tag attrs children at) = element_node tag attrs.items (joined children.items) at

-- a plain tree with its places
abbrev pub placed : Plain → Trees Places
placed = fold-Plain (Trees Places) placed_step

-- plain trees with their places, in order
abbrev pub placed_all : List Plain → Trees Places
placed_all ps = joined (map placed ps)

-- without their places
abbrev pub unplaced : Plain → PlainTrees
unplaced p = unmarked (placed p)

-- plain trees without their places, in order
abbrev pub unplaced_all : List Plain → PlainTrees
unplaced_all ps = unmarked (placed_all ps)
