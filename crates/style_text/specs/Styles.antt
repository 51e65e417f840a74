-- Inline styles: which units spell which pairs of property and value.
use Rattle.std.specs.Prelude.{◌≡◌, ℕ, ◌+◌, ◌-◌, Bool, true, false, ◌&&◌, ◌||◌, not, List, [], ◌∷◌, ◌++◌, length, slice_index, nat_lt, nat_le, ◌==◌, codes}
use Rattle.std.specs.List.{list_any, list_all}
use Rattle.std.specs.Int.{is_in_range}
use Rattle.std.specs.Str.{bytes_eq, byte}
use Rattle.exact_refusals.specs.Plain.{IsRefusedAt}
use Rattle.style_text.specs.declared.value.TheConstants.{LONGEST_VALUE}
use Rattle.style_text.specs.declared.StyleFault.{StyleFault}
use Rattle.style_text.specs.declared.StyleFault.TheVariants as fault

-- a property and its value
abbrev pub Pair : Type 0
Pair = List ℕ × List ℕ

-- space, tab, line feed and carriage return
abbrev pub is_blank : ℕ → Bool
is_blank u = u == 32 || u == 9 || u == 10 || u == 13

-- ## Properties

unfoldable pub properties : List (List ℕ)
properties =
    codes "background-color" ∷ codes "border" ∷ codes "border-color" ∷ codes "border-style" ∷ codes "border-width"
    ∷ codes "bottom" ∷ codes "clear" ∷ codes "color" ∷ codes "cursor" ∷ codes "display"
    ∷ codes "float" ∷ codes "font-family" ∷ codes "font-size" ∷ codes "font-style" ∷ codes "font-weight"
    ∷ codes "height" ∷ codes "left" ∷ codes "letter-spacing" ∷ codes "line-height" ∷ codes "list-style-type"
    ∷ codes "margin" ∷ codes "margin-bottom" ∷ codes "margin-left" ∷ codes "margin-right" ∷ codes "margin-top"
    ∷ codes "max-height" ∷ codes "max-width" ∷ codes "min-height" ∷ codes "min-width" ∷ codes "opacity"
    ∷ codes "overflow" ∷ codes "padding" ∷ codes "padding-bottom" ∷ codes "padding-left" ∷ codes "padding-right"
    ∷ codes "padding-top" ∷ codes "position" ∷ codes "right" ∷ codes "text-align" ∷ codes "text-decoration"
    ∷ codes "text-indent" ∷ codes "top" ∷ codes "vertical-align" ∷ codes "visibility" ∷ codes "white-space"
    ∷ codes "width" ∷ codes "word-spacing" ∷ codes "z-index" ∷ []

unfoldable pub is_listed : List ℕ → Bool
is_listed property = list_any (bytes_eq property) properties

-- some pair has the property
unfoldable pub is_used : List Pair → List ℕ → Bool
is_used pairs property = list_any (λ pair. bytes_eq pair.0 property) pairs

-- each property stands once
abbrev pub is_once : List Pair → Bool
is_once [] = true
is_once (pair ∷ pairs) = not (is_used pairs pair.0) && is_once pairs

-- ## Values

-- an ASCII letter, a digit, a space, or one of `# % . , - ! ( ) '`
abbrev pub is_value_unit : ℕ → Bool
is_value_unit u =
    is_in_range 97 122 u || is_in_range 65 90 u || is_in_range 48 57 u || u == 32
    || u == byte "#" || u == byte "%" || u == byte "." || u == byte "," || u == byte "-" || u == byte "!" || u == byte "(" || u == byte ")" || u == byte "'"

-- the unit is the lower-case letter, in either case
abbrev pub is_letter : ℕ → ℕ → Bool
is_letter letter u = u == letter || u + 32 == letter

-- the word stands at the start of the units, in any case; the word is in lower case
abbrev pub begins_in_any_case : List ℕ → List ℕ → Bool
begins_in_any_case [] us = true
begins_in_any_case (letter ∷ word) [] = false
begins_in_any_case (letter ∷ word) (u ∷ us) = is_letter letter u && begins_in_any_case word us

-- the word stands somewhere in the units, in any case
abbrev pub has_word : List ℕ → List ℕ → Bool
has_word word [] = false
has_word word (u ∷ us) = begins_in_any_case word (u ∷ us) || has_word word us

-- the words that lead out of the page
abbrev pub has_barred_word : List ℕ → Bool
has_barred_word us = has_word (codes "url") us || has_word (codes "expression") us

-- 1 to `LONGEST_VALUE` units of values, neither the first nor the last a space, with no barred word
unfoldable pub is_value : List ℕ → Bool
is_value us =
    nat_lt 0 (length us) && nat_le (length us) LONGEST_VALUE && list_all is_value_unit us
    && not (slice_index us 0 == 32) && not (slice_index us (length us - 1) == 32) && not (has_barred_word us)

-- ## Styles

-- `Blanks us rest`: blanks stand in us before rest
pub data Blanks : List ℕ → List ℕ → Type 0 where
  here : {rest : List ℕ} → Blanks rest rest
  behind : {u : ℕ} {us rest : List ℕ} → is_blank u ≡ true → Blanks us rest → Blanks (u ∷ us) rest

-- `SpellsPair property value us rest`: the two stand in us before rest, with a colon between them and blanks round each
pub data SpellsPair : List ℕ → List ℕ → List ℕ → List ℕ → Type 0 where
  parts : {property value us vs ws xs rest : List ℕ} →
      Blanks us (property ++ vs) → is_listed property ≡ true →
      Blanks vs (byte ":" ∷ ws) →
      Blanks ws (value ++ xs) → is_value value ≡ true →
      Blanks xs rest →
      SpellsPair property value us rest

-- `SpellsPairs us pairs`: pairs with semicolons between them, and maybe one behind the last pair
pub data SpellsPairs : List ℕ → List Pair → Type 0 where
  empty : {us : List ℕ} → Blanks us [] → SpellsPairs us []
  single : {property value us : List ℕ} → SpellsPair property value us [] → SpellsPairs us ((property, value) ∷ [])
  several : {property value us rest : List ℕ} {pairs : List Pair} →
      SpellsPair property value us (byte ";" ∷ rest) → SpellsPairs rest pairs → SpellsPairs us ((property, value) ∷ pairs)

-- the units are a style of these pairs
pub record StyleSpells (us : List ℕ) (pairs : List Pair) : Type 0 where
  pub spelled : SpellsPairs us pairs
  pub once : is_once pairs ≡ true

-- no style begins with the units up to and with this one, and those before it begin a style; or it is the length, and the units begin a style and are none
abbrev pub BadStylePlace : List ℕ → ℕ → Type 0
BadStylePlace us at = IsRefusedAt StyleSpells us at

-- the units are no style, with the place of the refusal, or there was no memory
abbrev pub IsStyleFault : List ℕ → StyleFault → Type 0
IsStyleFault us (fault.BadStyle at) = BadStylePlace us at
IsStyleFault us fault.Memory = Unit {0}

-- ## Printing

-- `property: value`
abbrev pub print_pair : Pair → List ℕ
print_pair pair = pair.0 ++ codes ": " ++ pair.1

-- `property: value; property: value`
unfoldable pub print_style : List Pair → List ℕ
print_style [] = []
print_style (pair ∷ []) = print_pair pair
print_style (pair ∷ next ∷ pairs) = print_pair pair ++ codes "; " ++ print_style (next ∷ pairs)

-- a listed property and a spelled value
abbrev pub is_pair : Pair → Bool
is_pair pair = is_listed pair.0 && is_value pair.1
