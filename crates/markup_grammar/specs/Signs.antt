-- Characters as the grammar sees them.
use Rattle.std.specs.Prelude.{ℕ, ◌+◌, List, [], ◌∷◌, Bool, true, false, nat_eq, ◌||◌, if◌then◌else◌}
use Rattle.std.specs.Char.{len_utf8}
use Rattle.plain_tree.specs.Names.{is_letter, is_digit}
use Rattle.markup_grammar.specs.declared.Sign.{Sign}
use Rattle.markup_grammar.specs.declared.Sign.TheVariants as sign

-- space, tab, LF, CR
abbrev pub is_blank : ℕ → Bool
is_blank c = nat_eq c 32 || nat_eq c 9 || nat_eq c 10 || nat_eq c 13

abbrev pub sign_of : ℕ → Sign
sign_of c =
    if is_letter c then sign.Letter
    else (if is_digit c then sign.Digit
    else (if is_blank c then sign.Blank
    else (if nat_eq c 60 then sign.Less
    else (if nat_eq c 62 then sign.Greater
    else (if nat_eq c 47 then sign.Slash
    else (if nat_eq c 61 then sign.Equals
    else (if nat_eq c 34 then sign.DoubleQuote
    else (if nat_eq c 39 then sign.SingleQuote
    else (if nat_eq c 38 then sign.Ampersand
    else (if nat_eq c 35 then sign.Hash
    else (if nat_eq c 59 then sign.Semicolon
    else (if nat_eq c 45 then sign.Hyphen
    else sign.Other))))))))))))

-- a code point, and the byte at which it stands
pub record Spot : Type 0 where
  pub code : ℕ
  pub at : ℕ

-- a character: its sign, its code point and its place
abbrev pub Char : Type 0
Char = Sign × Spot

abbrev pub char_at : ℕ → ℕ → Char
char_at at c = (sign_of c, record { code = c; at = at })

-- code points with their places, the first of which stands at `at`
abbrev pub located : ℕ → List ℕ → List Char
located at [] = []
located at (c ∷ cs) = char_at at c ∷ located (at + len_utf8 c) cs

-- what goes on in the name of a tag: letters and digits
abbrev pub in_tag : Sign → Bool
in_tag sign.Letter = true
in_tag sign.Digit = true
in_tag _ = false

-- what goes on in the name of an attribute: letters and `-`
abbrev pub in_attribute : Sign → Bool
in_attribute sign.Letter = true
in_attribute sign.Hyphen = true
in_attribute _ = false

-- what stands for itself in a text
abbrev pub in_text : Sign → Bool
in_text sign.Less = false
in_text sign.Ampersand = false
in_text _ = true

-- what stands for itself in a value between these quotes
abbrev pub in_value : Bool → Sign → Bool
in_value double sign.Less = false
in_value double sign.Ampersand = false
in_value true sign.DoubleQuote = false
in_value false sign.SingleQuote = false
in_value _ _ = true

-- the quote: double or single
abbrev pub quote : Bool → Sign
quote true = sign.DoubleQuote
quote false = sign.SingleQuote

abbrev pub is_less : Sign → Bool
is_less sign.Less = true
is_less _ = false

abbrev pub is_slash : Sign → Bool
is_slash sign.Slash = true
is_slash _ = false
