-- The spelling of tokens, in bytes.
use Rattle.std.specs.Prelude.{ℕ, ◌/◌, ◌%◌, List, [], ◌∷◌, ◌++◌, Bool, false, nat_le, nat_eq, ◌&&◌, ◌||◌, if◌then◌else◌, codes}
use Rattle.std.specs.List.{flat_map}
use Rattle.std.specs.Fmt.{digit_glyph}
use Rattle.js_tree.specs.declared.nodes.Word.{Word}
use Rattle.js_tree.specs.declared.nodes.Word.TheVariants as word
use Rattle.js_tree.specs.declared.nodes.UnOp.{UnOp}
use Rattle.js_tree.specs.declared.nodes.UnOp.TheVariants as un
use Rattle.js_tree.specs.declared.nodes.BinOp.{BinOp}
use Rattle.js_tree.specs.declared.nodes.BinOp.TheVariants as bin
use Rattle.js_tree.specs.declared.nodes.AssignOp.{AssignOp}
use Rattle.js_tree.specs.declared.nodes.AssignOp.TheVariants as assign

-- `\u` and four hexadecimal digits, in lower case
abbrev pub hex_unit : ℕ → List ℕ
hex_unit u = 92 ∷ 117 ∷ digit_glyph false (u / 4096) ∷ digit_glyph false (u / 256 % 16) ∷ digit_glyph false (u / 16 % 16) ∷ digit_glyph false (u % 16) ∷ []

-- a unit from 32 to 126 as it is
abbrev pub unit_bytes : ℕ → List ℕ
unit_bytes u = if nat_le 32 u && nat_le u 126 then u ∷ [] else hex_unit u

-- a name or a number
unfoldable pub name_bytes : List ℕ → List ℕ
name_bytes us = flat_map unit_bytes us

-- a quote, a backslash, and a slash after `<`
abbrev pub is_escaped : ℕ → ℕ → Bool
is_escaped before u = nat_eq u 34 || (nat_eq u 92 || (nat_eq u 47 && nat_eq before 60))

-- a unit of a string, after another: one of these stands behind a backslash
abbrev pub quoted_unit : ℕ → ℕ → List ℕ
quoted_unit before u = if is_escaped before u then 92 ∷ u ∷ [] else unit_bytes u

-- the units of a string
abbrev pub quoted_units : ℕ → List ℕ → List ℕ
quoted_units before [] = []
quoted_units before (u ∷ us) = quoted_unit before u ++ quoted_units u us

-- a string in its quotes
unfoldable pub string_bytes : List ℕ → List ℕ
string_bytes us = 34 ∷ (quoted_units 0 us ++ 34 ∷ [])

-- a reserved word
abbrev pub word_bytes : Word → List ℕ
word_bytes word.This = codes "this"
word_bytes word.Null = codes "null"
word_bytes word.True = codes "true"
word_bytes word.False = codes "false"

-- a prefix operator
abbrev pub unary_bytes : UnOp → List ℕ
unary_bytes un.Delete = codes "delete"
unary_bytes un.Void = codes "void"
unary_bytes un.TypeOf = codes "typeof"
unary_bytes un.Plus = codes "+"
unary_bytes un.Minus = codes "-"
unary_bytes un.BitNot = codes "~"
unary_bytes un.Not = codes "!"

-- an operator between two operands
abbrev pub binary_bytes : BinOp → List ℕ
binary_bytes bin.Mul = codes "*"
binary_bytes bin.Div = codes "/"
binary_bytes bin.Rem = codes "%"
binary_bytes bin.Add = codes "+"
binary_bytes bin.Sub = codes "-"
binary_bytes bin.ShiftLeft = codes "<<"
binary_bytes bin.ShiftRight = codes ">>"
binary_bytes bin.ShiftRightZero = codes ">>>"
binary_bytes bin.Less = codes "<"
binary_bytes bin.Greater = codes ">"
binary_bytes bin.LessEqual = codes "<="
binary_bytes bin.GreaterEqual = codes ">="
binary_bytes bin.InstanceOf = codes "instanceof"
binary_bytes bin.In = codes "in"
binary_bytes bin.Equal = codes "=="
binary_bytes bin.NotEqual = codes "!="
binary_bytes bin.Same = codes "==="
binary_bytes bin.NotSame = codes "!=="
binary_bytes bin.BitAnd = codes "&"
binary_bytes bin.BitXor = codes "^"
binary_bytes bin.BitOr = codes "|"

-- an assignment operator
abbrev pub assign_bytes : AssignOp → List ℕ
assign_bytes assign.Assign = codes "="
assign_bytes assign.Add = codes "+="
assign_bytes assign.Sub = codes "-="
assign_bytes assign.Mul = codes "*="
assign_bytes assign.Div = codes "/="
assign_bytes assign.Rem = codes "%="
assign_bytes assign.ShiftLeft = codes "<<="
assign_bytes assign.ShiftRight = codes ">>="
assign_bytes assign.ShiftRightZero = codes ">>>="
assign_bytes assign.BitAnd = codes "&="
assign_bytes assign.BitOr = codes "|="
assign_bytes assign.BitXor = codes "^="
