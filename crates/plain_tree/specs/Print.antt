-- PrintMarkup: the printed text of trees, as bytes of UTF-8. `style` is the printed form of the value of a `style`
-- attribute: a list of styles in one spelling, and what is no such list as it stands.
use Rattle.std.specs.Prelude.{ℕ, List, [], ◌∷◌, ◌++◌, nat_eq, codes, if◌then◌else◌}
use Rattle.std.specs.List.{flat_map}
use Rattle.std.specs.Str.{bytes_eq}
use Rattle.code_units.specs.Utf8.{utf8_of}
use Rattle.plain_tree.specs.Names.{is_void}
use Rattle.plain_tree.specs.Trees.{Attribute, TextOf, ElementOf, Trees, End, Node}

-- `&`, `<` and `>` as references
abbrev pub escape : ℕ → List ℕ
escape u =
    if nat_eq u 38 then codes "&amp;"
    else (if nat_eq u 60 then codes "&lt;" else (if nat_eq u 62 then codes "&gt;" else u ∷ []))

-- in a value `"` too
abbrev pub escape_in_value : ℕ → List ℕ
escape_in_value u = if nat_eq u 34 then codes "&quot;" else escape u

-- a text
abbrev pub printed_text : List ℕ → List ℕ
printed_text us = utf8_of (flat_map escape us)

-- a value
abbrev pub printed_value : List ℕ → List ℕ
printed_value us = utf8_of (flat_map escape_in_value us)

-- ` name="value"`
abbrev pub written : List ℕ → List ℕ → List ℕ
written name value = codes " " ++ utf8_of name ++ codes "=\"" ++ printed_value value ++ codes "\""

-- a style in its printed form, which is left out where it is empty
abbrev pub written_style : List ℕ → List ℕ → List ℕ
written_style name [] = []
written_style name (u ∷ us) = written name (u ∷ us)

-- an attribute, of which `style` has a printed form of its own
abbrev pub printed_attribute : (List ℕ → List ℕ) → Attribute → List ℕ
printed_attribute style a =
    if bytes_eq (a.0) (codes "style") then written_style (a.0) (style (a.1)) else written (a.0) (a.1)

-- a tag with its attributes
abbrev pub opening : (List ℕ → List ℕ) → List ℕ → List Attribute → List ℕ
opening style tag attrs = codes "<" ++ utf8_of tag ++ flat_map (printed_attribute style) attrs ++ codes ">"

-- an end tag
abbrev pub closing : List ℕ → List ℕ
closing tag = codes "</" ++ utf8_of tag ++ codes ">"

-- trees, one after another; a void element has neither content nor end tag
abbrev pub printed : {M : Type 0} → (List ℕ → List ℕ) → Trees M → List ℕ
printed style End = []
printed style (Node m (TextOf us) ks ts) = printed_text us ++ printed style ts
printed style (Node m (ElementOf tag attrs) ks ts) =
    opening style tag attrs ++ (if is_void tag then [] else printed style ks ++ closing tag) ++ printed style ts
