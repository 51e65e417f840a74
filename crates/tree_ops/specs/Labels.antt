-- What a node is, read and changed.
use Rattle.std.specs.Prelude.{ℕ, List, [], ◌∷◌, Option, Some, None, Bool, true, false, not, if◌then◌else◌, codes}
use Rattle.std.specs.List.{filter}
use Rattle.std.specs.Str.{bytes_eq}
use Rattle.plain_tree.specs.Names.{is_void}
use Rattle.plain_tree.specs.Trees.{Attribute, Label, TextOf, ElementOf, value_of}

-- whether it is a text node
abbrev pub is_text : Label → Bool
is_text (ElementOf tag attributes) = false
is_text (TextOf text) = true

-- neither a text node nor a void element takes children
abbrev pub is_leaf : Label → Bool
is_leaf (TextOf text) = true
is_leaf (ElementOf tag attributes) = is_void tag

-- the tag of an element
abbrev pub tag_of : Label → Option (List ℕ)
tag_of (TextOf text) = None
tag_of (ElementOf tag attributes) = Some tag

-- the text of a text node
abbrev pub text_of : Label → Option (List ℕ)
text_of (TextOf text) = Some text
text_of (ElementOf tag attributes) = None

-- the value of an element's attribute
abbrev pub attribute_of : List ℕ → Label → Option (List ℕ)
attribute_of name (TextOf text) = None
attribute_of name (ElementOf tag attributes) = value_of name attributes

-- attributes with a value under a name: a name that is there keeps its place, and a new one stands last
abbrev pub with_value : List ℕ → List ℕ → List Attribute → List Attribute
with_value name value [] = (name, value) ∷ []
with_value name value (a ∷ others) = if bytes_eq (a.0) name then (a.0, value) ∷ others else a ∷ with_value name value others

-- attributes without a name
abbrev pub without_value : List ℕ → List Attribute → List Attribute
without_value name attributes = filter (λ a. not (bytes_eq (a.0) name)) attributes

-- an element with a value under a name, or without the name
abbrev pub with_attribute : List ℕ → Option (List ℕ) → Label → Label
with_attribute name value (TextOf text) = TextOf text
with_attribute name None (ElementOf tag attributes) = ElementOf tag (without_value name attributes)
with_attribute name (Some value) (ElementOf tag attributes) = ElementOf tag (with_value name value attributes)

-- what a copy of a node is: it has no `id`
abbrev pub copied_label : Label → Label
copied_label l = with_attribute (codes "id") None l
