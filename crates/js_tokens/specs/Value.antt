-- What a token says.
use Rattle.std.specs.Prelude.{ℕ, ◌+◌, ◌-◌, ◌*◌, List, [], ◌∷◌, ◌++◌, slice_range, nat_le, nat_eq, ◌||◌, ◌&&◌, if◌then◌else◌}
use Rattle.std.specs.Str.{chars}
use Rattle.std.specs.Char.Escape.{encode_utf16}
use Rattle.js_tokens.specs.declared.token.Token.{Token}
use Rattle.js_tokens.specs.declared.token.TokenKind.{TokenKind}
use Rattle.js_tokens.specs.declared.token.TokenKind.TheVariants as kind
use Rattle.js_tokens.specs.declared.value.Mode.{Mode}
use Rattle.js_tokens.specs.declared.value.Mode.TheVariants as mode
use Rattle.js_tokens.specs.Characters.{is_digit}

-- the value of a hexadecimal digit (0 for another character)
abbrev pub hex_value : ℕ → ℕ
hex_value c = if is_digit c then c - 48 else (if nat_le 97 c && nat_le c 102 then c - 87 else (if nat_le 65 c && nat_le c 70 then c - 55 else 0))

-- the unit that a character stands for behind a backslash: `\b \t \n \v \f \r \0`, and others themselves
abbrev pub escaped : ℕ → ℕ
escaped c =
    if nat_eq c 98 then 8 else (if nat_eq c 116 then 9 else (if nat_eq c 110 then 10 else (if nat_eq c 118 then 11
    else (if nat_eq c 102 then 12 else (if nat_eq c 114 then 13 else (if nat_eq c 48 then 0 else c))))))

-- what comes after the character
abbrev pub mode_after : Mode → ℕ → Mode
mode_after mode.Plain c = if nat_eq c 92 then mode.Escape else mode.Plain
mode_after mode.Escape c = if nat_eq c 120 then mode.Digits 1 0 else (if nat_eq c 117 then mode.Digits 3 0 else mode.Plain)
mode_after (mode.Digits more value) c = if nat_eq more 0 then mode.Plain else mode.Digits (more - 1) (16 * value + hex_value c)

-- the units that the character ends
abbrev pub units_at : Mode → ℕ → List ℕ
units_at mode.Plain c = if nat_eq c 92 then [] else encode_utf16 c
units_at mode.Escape c = if nat_eq c 120 || nat_eq c 117 then [] else encode_utf16 (escaped c)
units_at (mode.Digits more value) c = if nat_eq more 0 then (16 * value + hex_value c) ∷ [] else []

-- the units of the characters between the quotes (ECMA-262 3rd edition, 7.8.4)
abbrev pub string_value : Mode → List ℕ → List ℕ
string_value m [] = []
string_value m (c ∷ cs) = units_at m c ++ string_value (mode_after m c) cs

abbrev pub text_between : TokenKind → List ℕ → ℕ → ℕ → List ℕ
text_between kind.Str bytes from to = string_value mode.Plain (chars (slice_range bytes (from + 1) (to - 1)))
text_between _ bytes from to = slice_range bytes from to

-- the units of a name, a reserved word, a number or a mark, and the value of a string
unfoldable pub text_of : List ℕ → Token → List ℕ
text_of bytes token = text_between token.kind bytes token.from token.to
