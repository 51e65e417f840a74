-- What the grammar sees of a token.
use Rattle.std.specs.Prelude.{◌≡◌, ◌<◌, ◌^◌, All, ℕ, List, [], ◌∷◌, ◌++◌, map, length, codes, slice_range, if◌then◌else◌}
use Rattle.std.specs.Str.{bytes_eq}
use Rattle.js_grammar.specs.declared.Sign.{Sign}
use Rattle.js_grammar.specs.declared.Sign.TheVariants as sign
use Rattle.js_grammar.specs.Grammar.{Token}
use Rattle.js_tokens.specs.declared.token.Token.{Token as Lexed}
use Rattle.js_tokens.specs.declared.token.TokenKind.{TokenKind}
use Rattle.js_tokens.specs.declared.token.TokenKind.TheVariants as kind
use Rattle.js_tokens.specs.Lexes.{IsTokenOf}
use Rattle.js_tokens.specs.Value.{text_of}

-- the sign of a text, where a row has it
abbrev pub look_up : List (List ℕ × Sign) → List ℕ → Sign
look_up [] text = sign.Unused
look_up (row ∷ rows) text = if bytes_eq text row.0 then row.1 else look_up rows text

-- the reserved words that the grammar uses
unfoldable pub words : List (List ℕ × Sign)
words =
    (codes "var", sign.Var) ∷ (codes "function", sign.Function) ∷ (codes "return", sign.Return) ∷ (codes "if", sign.If)
    ∷ (codes "this", sign.This) ∷ (codes "else", sign.Else) ∷ (codes "for", sign.For) ∷ (codes "new", sign.New)
    ∷ (codes "true", sign.True) ∷ (codes "false", sign.False) ∷ (codes "null", sign.Null) ∷ (codes "typeof", sign.TypeOf)
    ∷ (codes "case", sign.Case) ∷ (codes "break", sign.Break) ∷ (codes "while", sign.While) ∷ (codes "in", sign.In)
    ∷ (codes "throw", sign.Throw) ∷ (codes "try", sign.Try) ∷ (codes "catch", sign.Catch) ∷ (codes "switch", sign.Switch)
    ∷ (codes "default", sign.Default) ∷ (codes "delete", sign.Delete) ∷ (codes "continue", sign.Continue) ∷ (codes "do", sign.Do)
    ∷ (codes "finally", sign.Finally) ∷ (codes "instanceof", sign.InstanceOf) ∷ (codes "void", sign.Void) ∷ (codes "with", sign.With) ∷ []

-- the marks
unfoldable pub marks : List (List ℕ × Sign)
marks =
    (codes "(", sign.Open) ∷ (codes ")", sign.Close) ∷ (codes ";", sign.Semicolon) ∷ (codes ",", sign.Comma)
    ∷ (codes ".", sign.Point) ∷ (codes "{", sign.OpenBrace) ∷ (codes "}", sign.CloseBrace) ∷ (codes "=", sign.Assign)
    ∷ (codes "[", sign.OpenSquare) ∷ (codes "]", sign.CloseSquare) ∷ (codes ":", sign.Colon) ∷ (codes "===", sign.Same)
    ∷ (codes "+", sign.Plus) ∷ (codes "-", sign.Minus) ∷ (codes "++", sign.PlusPlus) ∷ (codes "&&", sign.AndAnd)
    ∷ (codes "||", sign.OrOr) ∷ (codes "<", sign.Less) ∷ (codes ">", sign.Greater) ∷ (codes "!", sign.Not)
    ∷ (codes "?", sign.Question) ∷ (codes "!==", sign.NotSame) ∷ (codes "+=", sign.PlusAssign) ∷ (codes "*", sign.Star)
    ∷ (codes "/", sign.Slash) ∷ (codes "%", sign.Percent) ∷ (codes "<=", sign.LessEqual) ∷ (codes ">=", sign.GreaterEqual)
    ∷ (codes "==", sign.Equal) ∷ (codes "!=", sign.NotEqual) ∷ (codes "--", sign.MinusMinus) ∷ (codes "-=", sign.MinusAssign)
    ∷ (codes "*=", sign.StarAssign) ∷ (codes "/=", sign.SlashAssign) ∷ (codes "%=", sign.PercentAssign) ∷ (codes "&", sign.BitAnd)
    ∷ (codes "|", sign.BitOr) ∷ (codes "^", sign.BitXor) ∷ (codes "~", sign.BitNot) ∷ (codes "<<", sign.ShiftLeft)
    ∷ (codes ">>", sign.ShiftRight) ∷ (codes ">>>", sign.ShiftRightZero) ∷ (codes "<<=", sign.ShiftLeftAssign) ∷ (codes ">>=", sign.ShiftRightAssign)
    ∷ (codes ">>>=", sign.ShiftRightZeroAssign) ∷ (codes "&=", sign.BitAndAssign) ∷ (codes "|=", sign.BitOrAssign) ∷ (codes "^=", sign.BitXorAssign) ∷ []

-- the sign of a token of this kind and these bytes
abbrev pub sign_as : TokenKind → List ℕ → Sign
sign_as kind.Name spelling = sign.Name
sign_as kind.Number spelling = sign.Number
sign_as kind.Str spelling = sign.Str
sign_as kind.Reserved spelling = look_up words spelling
sign_as kind.Mark spelling = look_up marks spelling

-- the sign of a token of these bytes
abbrev pub sign_of : List ℕ → Lexed → Sign
sign_of bytes t = sign_as t.kind (slice_range bytes t.from t.to)

-- a token as the grammar sees it
abbrev pub seen : List ℕ → Lexed → Token
seen bytes t = (sign_of bytes t, record { text = text_of bytes t; at = t.from })

-- the tokens as the grammar sees them, and the end of the text
abbrev pub input : List ℕ → List Lexed → List Token
input bytes ts = map (seen bytes) ts ++ (sign.End, record { text = []; at = length bytes }) ∷ []

-- the signs are those of the tokens, which are tokens of the bytes
pub record IsScript (bytes : List ℕ) (ts : List Lexed) (signs : List Sign) : Type 0 where
  pub signed : signs ≡ map (sign_of bytes) ts
  pub tokens : All (IsTokenOf bytes) ts
  pub short : length ts < 2 ^ 31
