-- The runs of the scanner.
use Rattle.std.specs.Prelude.{ℕ, Bool}
use Rattle.js_tokens.specs.declared.class.Run.{Run}
use Rattle.js_tokens.specs.declared.class.Run.TheVariants as run
use Rattle.js_tokens.specs.Characters.{is_in_line, is_digit, is_hex_digit, is_part, is_blank}

abbrev pub passes : Run → ℕ → Bool
passes run.Name c = is_part c
passes run.Digits c = is_digit c
passes run.HexDigits c = is_hex_digit c
passes run.Line c = is_in_line c
passes run.Blank c = is_blank c
