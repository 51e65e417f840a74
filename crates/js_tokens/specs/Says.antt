-- What the characters between the quotes of a string stand for (ECMA-262 3rd edition, 7.8.4).
use Rattle.std.specs.Prelude.{◌≡◌, ◌≢◌, ℕ, ◌+◌, ◌-◌, ◌*◌, List, [], ◌∷◌, ◌++◌, Bool, true, false, nat_eq, ◌||◌, not, codes, slice_range}
use Rattle.std.specs.List.{list_any}
use Rattle.std.specs.Str.{chars}
use Rattle.std.specs.Char.Escape.{encode_utf16}
use Rattle.js_tokens.specs.declared.token.Token.{Token}
use Rattle.js_tokens.specs.Characters.{is_digit, is_hex_digit, is_line_end, Begins}
use Rattle.js_tokens.specs.Value.{hex_value}

-- what stands for itself behind a backslash: no digit, no line end, and none of the letters of the other rows
abbrev pub is_itself : ℕ → Bool
is_itself c = not (is_digit c || is_line_end c || list_any (nat_eq c) (codes "btnvfrxu"))

-- these characters stand for these units; 92 is the backslash
pub data StandsFor : List ℕ → List ℕ → Type 0 where
  nothing : StandsFor [] []
  -- a character is one unit, or two above U+FFFF
  plain : {c : ℕ} {cs us : List ℕ} → c ≢ 92 → StandsFor cs us → StandsFor (c ∷ cs) (encode_utf16 c ++ us)
  -- `\b`
  backspace : {cs us : List ℕ} → StandsFor cs us → StandsFor (92 ∷ 98 ∷ cs) (8 ∷ us)
  -- `\t`
  tab : {cs us : List ℕ} → StandsFor cs us → StandsFor (92 ∷ 116 ∷ cs) (9 ∷ us)
  -- `\n`
  line_feed : {cs us : List ℕ} → StandsFor cs us → StandsFor (92 ∷ 110 ∷ cs) (10 ∷ us)
  -- `\v`
  vertical_tab : {cs us : List ℕ} → StandsFor cs us → StandsFor (92 ∷ 118 ∷ cs) (11 ∷ us)
  -- `\f`
  form_feed : {cs us : List ℕ} → StandsFor cs us → StandsFor (92 ∷ 102 ∷ cs) (12 ∷ us)
  -- `\r`
  carriage_return : {cs us : List ℕ} → StandsFor cs us → StandsFor (92 ∷ 114 ∷ cs) (13 ∷ us)
  -- `\0`, not before a digit
  null : {cs us : List ℕ} → Begins is_digit cs ≡ false → StandsFor cs us → StandsFor (92 ∷ 48 ∷ cs) (0 ∷ us)
  -- `\x` and two hexadecimal digits
  two_digits : {h i : ℕ} {cs us : List ℕ} → is_hex_digit h ≡ true → is_hex_digit i ≡ true → StandsFor cs us →
      StandsFor (92 ∷ 120 ∷ h ∷ i ∷ cs) ((16 * hex_value h + hex_value i) ∷ us)
  -- `\u` and four
  four_digits : {h i j k : ℕ} {cs us : List ℕ} → is_hex_digit h ≡ true → is_hex_digit i ≡ true → is_hex_digit j ≡ true → is_hex_digit k ≡ true → StandsFor cs us →
      StandsFor (92 ∷ 117 ∷ h ∷ i ∷ j ∷ k ∷ cs) ((16 * (16 * (16 * hex_value h + hex_value i) + hex_value j) + hex_value k) ∷ us)
  -- another character, for itself
  itself : {c : ℕ} {cs us : List ℕ} → is_itself c ≡ true → StandsFor cs us → StandsFor (92 ∷ c ∷ cs) (encode_utf16 c ++ us)

-- the characters between the quotes of a string
abbrev pub between_quotes : List ℕ → Token → List ℕ
between_quotes bytes token = chars (slice_range bytes (token.from + 1) (token.to - 1))
