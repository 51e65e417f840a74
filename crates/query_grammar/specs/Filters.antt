-- What a filter sees of a node, and which nodes it keeps.
use Rattle.std.specs.Prelude.{ℕ, List, Bool, false, not, ◌&&◌, ◌||◌, ◌==◌, if◌then◌else◌, codes, Option, Some, None, is_some}
use Rattle.std.specs.List.{list_any, slice_split}
use Rattle.std.specs.Str.{bytes_eq}
use Rattle.style_text.specs.Form.{style_form}
use Rattle.query_grammar.specs.declared.query.Filter.{Filter}
use Rattle.query_grammar.specs.declared.query.Filter.TheVariants as filter

-- a node as queries see it: the tag, which a text has not, and the value of the attribute with a name
pub record Look : Type 0 where
  pub tag : Option (List ℕ)
  pub attribute : List ℕ → Option (List ℕ)

-- no text
abbrev pub is_element : Look → Bool
is_element n = is_some n.tag

-- whether a text is there and is this one
abbrev pub is_equal : Option (List ℕ) → List ℕ → Bool
is_equal None w = false
is_equal (Some v) w = bytes_eq v w

-- whether it has this tag
abbrev pub has_tag : Look → List ℕ → Bool
has_tag n tag = is_equal n.tag tag

-- an `input`
abbrev pub is_input : Look → Bool
is_input n = has_tag n (codes "input")

-- the elements that can be disabled
abbrev pub is_field : Look → Bool
is_field n = is_input n || has_tag n (codes "button") || has_tag n (codes "textarea") || has_tag n (codes "select") || has_tag n (codes "option")

-- an attribute's value as filters see it: `style` in its printed form
abbrev pub seen_value : List ℕ → List ℕ → List ℕ
seen_value name v = if bytes_eq name (codes "style") then style_form v else v

-- the same of an attribute that may be missing
abbrev pub seen_option : List ℕ → Option (List ℕ) → Option (List ℕ)
seen_option name None = None
seen_option name (Some v) = Some (seen_value name v)

-- an attribute of a node, as filters see it
abbrev pub seen : Look → List ℕ → Option (List ℕ)
seen n name = seen_option name (n.attribute name)

-- the words between spaces
abbrev pub words : List ℕ → List (List ℕ)
words us = slice_split (λ u. u == 32) us

-- whether a word is among the words of a text that is there
abbrev pub is_among : Option (List ℕ) → List ℕ → Bool
is_among None w = false
is_among (Some v) w = list_any (bytes_eq w) (words v)

-- whether a word is among the words of `class`
abbrev pub has_class : Look → List ℕ → Bool
has_class n w = is_among (n.attribute (codes "class")) w

-- whether a filter keeps a node, which has the focus or has it not
abbrev pub keeps : Filter → Look → Bool → Bool
keeps (filter.Class w) n focused = has_class n w
keeps (filter.Name w) n focused = is_equal (n.attribute (codes "name")) w
keeps (filter.Kind w) n focused = is_equal (n.attribute (codes "type")) w
keeps (filter.Has w) n focused = is_some (n.attribute w)
keeps (filter.Equals w v) n focused = is_equal (seen n w) v
keeps filter.Checked n focused = is_input n && is_some (n.attribute (codes "checked"))
keeps filter.Unchecked n focused = is_input n && not (is_some (n.attribute (codes "checked")))
keeps filter.Enabled n focused = is_field n && not (is_some (n.attribute (codes "disabled")))
keeps filter.Disabled n focused = is_field n && is_some (n.attribute (codes "disabled"))
keeps filter.Focus n focused = focused
