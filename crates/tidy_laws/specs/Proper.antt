-- The texts that tokens of a script have.
use Rattle.std.specs.Prelude.{◌≡◌, ℕ, List, [], true, nat_lt}
use Rattle.std.specs.List.{list_all}
use Rattle.js_grammar.specs.declared.Sign.{Sign}
use Rattle.js_grammar.specs.declared.Sign.TheVariants as sign
use Rattle.js_tokens.specs.declared.token.TokenKind.TheVariants as kind
use Rattle.js_tokens.specs.Lexes.{Spelled}

-- a name or a number is spelled by its text alone, and a string's units have 16 bits
abbrev pub IsProper : Sign → List ℕ → Type 0
IsProper sign.Name text = Spelled kind.Name text []
IsProper sign.Number text = Spelled kind.Number text []
IsProper sign.Str text = list_all (λ u. nat_lt u 65536) text ≡ true
IsProper _ text = Unit {0}

-- any text
abbrev pub IsAny : Sign → List ℕ → Type 0
IsAny s text = Unit {0}
