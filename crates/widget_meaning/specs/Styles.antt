-- Inline styles as a widget reads and changes them. How a style is spelled and prints is said by `style_text`.
use Rattle.std.specs.Prelude.{◌≡◌, ℕ, not, List, [], ◌∷◌, ◌++◌, length, map, nat_eq, if◌then◌else◌, Option, Some, None}
use Rattle.std.specs.List.{filter}
use Rattle.std.specs.Str.{bytes_eq}
use Rattle.style_text.specs.Styles.{Pair, is_used, StyleSpells}
use Rattle.style_text.specs.Machine.{begin, goes}
use Rattle.widget_meaning.specs.Outcomes.{what_is_read}

-- the pairs of a style; a text that is none has none
abbrev pub style_of : List ℕ → Option (List Pair)
style_of t = what_is_read (goes t begin 0)

-- the pairs, if there are any
abbrev pub pairs_or_none : Option (List Pair) → List Pair
pairs_or_none None = []
pairs_or_none (Some pairs) = pairs

-- the pairs of an attribute `style`
abbrev pub style_pairs : List ℕ → List Pair
style_pairs t = pairs_or_none (style_of t)

-- the value of a property, empty where it has none
abbrev pub style_value : List Pair → List ℕ → List ℕ
style_value [] p = []
style_value (q ∷ qs) p = if bytes_eq q.0 p then q.1 else style_value qs p

-- without a property
abbrev pub without_property : List Pair → List ℕ → List Pair
without_property qs p = filter (λ q. not (bytes_eq q.0 p)) qs

-- a property is set: in its place, or last; an empty value takes it out
abbrev pub with_property : List Pair → List ℕ → List ℕ → List Pair
with_property qs p v =
    if nat_eq (length v) 0 then without_property qs p
    else if is_used qs p then map (λ q. if bytes_eq q.0 p then (p, v) else q) qs
    else qs ++ (p, v) ∷ []

-- the pairs are those that the text spells as a style, and no others
pub record StyleLaws (t : List ℕ) (pairs : List Pair) : Type 0 where
  pub found : StyleSpells t pairs → style_of t ≡ Some pairs
  pub spelled : style_of t ≡ Some pairs → StyleSpells t pairs
