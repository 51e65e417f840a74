-- Which bytes the tokens of a tree have in its tidied text.
use Rattle.std.specs.Prelude.{◌≡◌, ℕ, ◌≤◌, List, [], ◌∷◌, Option, Some, None, codes}
use Rattle.js_grammar.specs.declared.Sign.{Sign}
use Rattle.js_grammar.specs.declared.Sign.TheVariants as sign
use Rattle.js_grammar.specs.Grammar.{Lexeme, Deep}
use Rattle.js_print.specs.Spelling.{name_bytes, string_bytes}
use Rattle.js_print.specs.Tidy.{Tokens}

-- the bytes of a reserved word or a mark
abbrev pub fixed_of : Sign → Option (List ℕ)
fixed_of sign.Break = Some (codes "break")
fixed_of sign.Case = Some (codes "case")
fixed_of sign.Catch = Some (codes "catch")
fixed_of sign.Continue = Some (codes "continue")
fixed_of sign.Default = Some (codes "default")
fixed_of sign.Delete = Some (codes "delete")
fixed_of sign.Do = Some (codes "do")
fixed_of sign.Else = Some (codes "else")
fixed_of sign.Finally = Some (codes "finally")
fixed_of sign.For = Some (codes "for")
fixed_of sign.Function = Some (codes "function")
fixed_of sign.If = Some (codes "if")
fixed_of sign.In = Some (codes "in")
fixed_of sign.InstanceOf = Some (codes "instanceof")
fixed_of sign.New = Some (codes "new")
fixed_of sign.Return = Some (codes "return")
fixed_of sign.Switch = Some (codes "switch")
fixed_of sign.This = Some (codes "this")
fixed_of sign.Throw = Some (codes "throw")
fixed_of sign.Try = Some (codes "try")
fixed_of sign.TypeOf = Some (codes "typeof")
fixed_of sign.Var = Some (codes "var")
fixed_of sign.Void = Some (codes "void")
fixed_of sign.While = Some (codes "while")
fixed_of sign.With = Some (codes "with")
fixed_of sign.Null = Some (codes "null")
fixed_of sign.True = Some (codes "true")
fixed_of sign.False = Some (codes "false")
fixed_of sign.OpenBrace = Some (codes "{")
fixed_of sign.CloseBrace = Some (codes "}")
fixed_of sign.Open = Some (codes "(")
fixed_of sign.Close = Some (codes ")")
fixed_of sign.OpenSquare = Some (codes "[")
fixed_of sign.CloseSquare = Some (codes "]")
fixed_of sign.Point = Some (codes ".")
fixed_of sign.Semicolon = Some (codes ";")
fixed_of sign.Comma = Some (codes ",")
fixed_of sign.Less = Some (codes "<")
fixed_of sign.Greater = Some (codes ">")
fixed_of sign.LessEqual = Some (codes "<=")
fixed_of sign.GreaterEqual = Some (codes ">=")
fixed_of sign.Equal = Some (codes "==")
fixed_of sign.NotEqual = Some (codes "!=")
fixed_of sign.Same = Some (codes "===")
fixed_of sign.NotSame = Some (codes "!==")
fixed_of sign.Plus = Some (codes "+")
fixed_of sign.Minus = Some (codes "-")
fixed_of sign.Star = Some (codes "*")
fixed_of sign.Slash = Some (codes "/")
fixed_of sign.Percent = Some (codes "%")
fixed_of sign.PlusPlus = Some (codes "++")
fixed_of sign.MinusMinus = Some (codes "--")
fixed_of sign.ShiftLeft = Some (codes "<<")
fixed_of sign.ShiftRight = Some (codes ">>")
fixed_of sign.ShiftRightZero = Some (codes ">>>")
fixed_of sign.BitAnd = Some (codes "&")
fixed_of sign.BitOr = Some (codes "|")
fixed_of sign.BitXor = Some (codes "^")
fixed_of sign.Not = Some (codes "!")
fixed_of sign.BitNot = Some (codes "~")
fixed_of sign.AndAnd = Some (codes "&&")
fixed_of sign.OrOr = Some (codes "||")
fixed_of sign.Question = Some (codes "?")
fixed_of sign.Colon = Some (codes ":")
fixed_of sign.Assign = Some (codes "=")
fixed_of sign.PlusAssign = Some (codes "+=")
fixed_of sign.MinusAssign = Some (codes "-=")
fixed_of sign.StarAssign = Some (codes "*=")
fixed_of sign.SlashAssign = Some (codes "/=")
fixed_of sign.PercentAssign = Some (codes "%=")
fixed_of sign.ShiftLeftAssign = Some (codes "<<=")
fixed_of sign.ShiftRightAssign = Some (codes ">>=")
fixed_of sign.ShiftRightZeroAssign = Some (codes ">>>=")
fixed_of sign.BitAndAssign = Some (codes "&=")
fixed_of sign.BitOrAssign = Some (codes "|=")
fixed_of sign.BitXorAssign = Some (codes "^=")
fixed_of _ = None

-- these bytes are a token of this sign and text
pub data TokenIs : List ℕ → Sign → List ℕ → Type 0 where
  as_name : {text : List ℕ} → TokenIs (name_bytes text) sign.Name text
  as_number : {text : List ℕ} → TokenIs (name_bytes text) sign.Number text
  as_string : {text : List ℕ} → TokenIs (string_bytes text) sign.Str text
  as_fixed : {s : Sign} {bytes : List ℕ} → fixed_of s ≡ Some bytes → TokenIs bytes s bytes

-- what stands in ts before rest has these bytes, token by token; each has an allowed depth and a fit text
pub data Written (Allowed : ℕ → Type 0) (Fit : Sign → List ℕ → Type 0) : Tokens → List Deep → List Deep → Type 0 where
  end : {rest : List Deep} → Written Allowed Fit [] rest rest
  next : {bytes : List ℕ} {s : Sign} {x : Lexeme} {d : ℕ} {words : Tokens} {ts rest : List Deep} → TokenIs bytes s x.text → Fit s x.text → Allowed d → Written Allowed Fit words ts rest → Written Allowed Fit (bytes ∷ words) (((s, x), d) ∷ ts) rest

-- depths up to a limit
abbrev pub UpTo : ℕ → ℕ → Type 0
UpTo limit d = d ≤ limit

-- any depth
abbrev pub AnyDepth : ℕ → Type 0
AnyDepth d = Unit {0}

-- every token has a fit text
abbrev pub AreFit : (Sign → List ℕ → Type 0) → List Deep → Type 0
AreFit Fit [] = Unit {0}
AreFit Fit (((s, x), d) ∷ ts) = Fit s x.text × AreFit Fit ts
