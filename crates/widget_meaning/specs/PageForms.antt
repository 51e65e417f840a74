-- What the natives of the page have in common: nodes and their labels, what they cost, and new nodes.
use Rattle.std.specs.Prelude.{ℕ, ◌+◌, List, [], ◌∷◌, ◌++◌, length, Bool, false, not, if◌then◌else◌, codes, Option, Some, None, replicate, unwrap_or, option_and_then, sum_by}
use Rattle.std.specs.List.{list_any, list_all}
use Rattle.std.specs.Str.{bytes_eq}
use Rattle.std.specs.Option.{option_map_or}
use Rattle.query_grammar.specs.Filters as node
use Rattle.query_grammar.specs.Filters.{Look}
use Rattle.query_grammar.specs.Finds.{has_number}
use Rattle.widget_meaning.specs.Values.{Value, E4, E10}
use Rattle.plain_tree.specs.Names as names
use Rattle.plain_tree.specs.Trees.{End, Node, Label, TextOf, ElementOf}
use Rattle.widget_meaning.specs.Trees.{Trees, label_of, relabelled, with_detached}
use Rattle.widget_meaning.specs.OwnState.{State, nothing_kept, with_own, with_forest, bunch_nodes, kind_of}
use Rattle.widget_meaning.specs.Plan.{Plan}
use Rattle.widget_meaning.specs.Costs.{throw, or_throw, want}
use Rattle.tree_ops.specs.Labels as labels
use Rattle.tree_ops.specs.Labels.{is_text, attribute_of, without_value}

-- the root has the number 0
abbrev pub root : ℕ
root = 0

-- a Bunch of the widget as an argument, by its nodes; all else throws E4
abbrev pub want_bunch : Value → State → (List ℕ → Plan) → Plan
want_bunch v s k = or_throw E4 (bunch_nodes (kind_of s v)) s k

-- a condition on all nodes, before any change
abbrev pub want_all : (ℕ → Bool) → List ℕ → State → Plan → Plan
want_all test ns s p = want E10 (list_all test ns) s p

-- one node alone
abbrev pub want_one : List ℕ → State → (ℕ → Plan) → Plan
want_one (n ∷ []) s k = k n
want_one ns s k = throw E4 s

-- the tag of an element, empty for a text node
abbrev pub tag_of : State → ℕ → List ℕ
tag_of s n = unwrap_or (option_and_then labels.tag_of (label_of n s.own.forest)) []

-- a text node
abbrev pub is_text_node : State → ℕ → Bool
is_text_node s n = option_map_or is_text (label_of n s.own.forest) false

-- a node with one of these tags
abbrev pub is_tag : List (List ℕ) → State → ℕ → Bool
is_tag tags s n = list_any (bytes_eq (tag_of s n)) tags

-- a void element
abbrev pub is_void : State → ℕ → Bool
is_void s n = names.is_void (tag_of s n)

-- an element
abbrev pub is_element : State → ℕ → Bool
is_element s n = not (is_text_node s n)

-- an attribute of a node
abbrev pub attribute : State → ℕ → List ℕ → Option (List ℕ)
attribute s n x = option_and_then (attribute_of x) (label_of n s.own.forest)

-- a node as queries see it: a text node has no tag
abbrev pub look : State → ℕ → Look
look s n = record { tag = if is_element s n then Some (tag_of s n) else None; attribute = attribute s n }

-- an `input`
abbrev pub is_input : State → ℕ → Bool
is_input s n = node.is_input (look s n)

-- an element that can be disabled
abbrev pub is_field : State → ℕ → Bool
is_field s n = node.is_field (look s n)

-- the text nodes of trees in document order, joined
abbrev pub texts_of : Trees → List ℕ
texts_of End = []
texts_of (Node n (TextOf t) ks ts) = t ++ (texts_of ks ++ texts_of ts)
texts_of (Node n (ElementOf tag attrs) ks ts) = texts_of ks ++ texts_of ts

-- the units of trees that are copied: of text nodes, and of attribute values without `id`
abbrev pub tree_units : Trees → ℕ
tree_units End = 0
tree_units (Node n (TextOf t) ks ts) = length t + (tree_units ks + tree_units ts)
tree_units (Node n (ElementOf tag attrs) ks ts) =
    sum_by (λ a. length a.1) (without_value (codes "id") attrs) + (tree_units ks + tree_units ts)

-- how many nodes the widget has had, which is the number of the next one
abbrev pub next_node : State → ℕ
next_node s = length s.own.kept

-- room for new nodes, of which nothing is kept yet
abbrev pub with_room : ℕ → State → State
with_room k s = with_own s (record s.own { kept = s.own.kept ++ replicate k nothing_kept })

-- a new tree of one node, detached
abbrev pub with_node : Label → State → State
with_node l s = with_room 1 (with_forest s (with_detached (Node (next_node s) l End End) s.own.forest))

-- one label changed
abbrev pub with_label : State → ℕ → Label → State
with_label s n l = with_forest s (relabelled n l s.own.forest)

-- each number once, at its first place, behind those seen
abbrev pub once : List ℕ → List ℕ → List ℕ
once seen [] = seen
once seen (n ∷ ns) = if has_number seen n then once seen ns else once (seen ++ n ∷ []) ns
