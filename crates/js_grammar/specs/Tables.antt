-- The operators, and what else a sign may be.
use Rattle.std.specs.Prelude.{ℕ, List, [], ◌∷◌, ◌+◌, ◌*◌, ◌-◌, ◌&&◌, not, Bool, true, false, Option, Some, None, nat_le, nat_eq}
use Rattle.js_grammar.specs.declared.Sign.{Sign}
use Rattle.js_grammar.specs.declared.Sign.TheVariants as sign
use Rattle.js_grammar.specs.declared.Infix.{Infix}
use Rattle.js_grammar.specs.declared.Infix.TheVariants as infixes
use Rattle.js_grammar.specs.declared.Prefix.{Prefix}
use Rattle.js_grammar.specs.declared.Prefix.TheVariants as prefixes
use Rattle.js_tree.specs.declared.nodes.StepOp.{StepOp}
use Rattle.js_tree.specs.declared.nodes.StepOp.TheVariants as step
use Rattle.js_tree.specs.declared.nodes.UnOp.TheVariants as unary
use Rattle.js_tree.specs.declared.nodes.BinOp.{BinOp}
use Rattle.js_tree.specs.declared.nodes.BinOp.TheVariants as binary
use Rattle.js_tree.specs.declared.nodes.AssignOp.{AssignOp}
use Rattle.js_tree.specs.declared.nodes.AssignOp.TheVariants as assign
use Rattle.js_tree.specs.Plain.{Expr, ExprForm, Unary, Step, Binary, And, Or}

-- the operator between two operands; `true` for a place where no `in` may stand (11.5 to 11.11)
abbrev pub infix_of : Sign → Bool → Option Infix
infix_of sign.Star no_in = Some (infixes.Binary binary.Mul)
infix_of sign.Slash no_in = Some (infixes.Binary binary.Div)
infix_of sign.Percent no_in = Some (infixes.Binary binary.Rem)
infix_of sign.Plus no_in = Some (infixes.Binary binary.Add)
infix_of sign.Minus no_in = Some (infixes.Binary binary.Sub)
infix_of sign.ShiftLeft no_in = Some (infixes.Binary binary.ShiftLeft)
infix_of sign.ShiftRight no_in = Some (infixes.Binary binary.ShiftRight)
infix_of sign.ShiftRightZero no_in = Some (infixes.Binary binary.ShiftRightZero)
infix_of sign.Less no_in = Some (infixes.Binary binary.Less)
infix_of sign.Greater no_in = Some (infixes.Binary binary.Greater)
infix_of sign.LessEqual no_in = Some (infixes.Binary binary.LessEqual)
infix_of sign.GreaterEqual no_in = Some (infixes.Binary binary.GreaterEqual)
infix_of sign.InstanceOf no_in = Some (infixes.Binary binary.InstanceOf)
infix_of sign.In false = Some (infixes.Binary binary.In)
infix_of sign.In true = None
infix_of sign.Equal no_in = Some (infixes.Binary binary.Equal)
infix_of sign.NotEqual no_in = Some (infixes.Binary binary.NotEqual)
infix_of sign.Same no_in = Some (infixes.Binary binary.Same)
infix_of sign.NotSame no_in = Some (infixes.Binary binary.NotSame)
infix_of sign.BitAnd no_in = Some (infixes.Binary binary.BitAnd)
infix_of sign.BitXor no_in = Some (infixes.Binary binary.BitXor)
infix_of sign.BitOr no_in = Some (infixes.Binary binary.BitOr)
infix_of sign.AndAnd no_in = Some infixes.And
infix_of sign.OrOr no_in = Some infixes.Or
infix_of _ no_in = None

-- its level, from the tightest
abbrev pub binary_level : BinOp → ℕ
binary_level binary.Mul = 0
binary_level binary.Div = 0
binary_level binary.Rem = 0
binary_level binary.Add = 1
binary_level binary.Sub = 1
binary_level binary.ShiftLeft = 2
binary_level binary.ShiftRight = 2
binary_level binary.ShiftRightZero = 2
binary_level binary.Less = 3
binary_level binary.Greater = 3
binary_level binary.LessEqual = 3
binary_level binary.GreaterEqual = 3
binary_level binary.InstanceOf = 3
binary_level binary.In = 3
binary_level binary.Equal = 4
binary_level binary.NotEqual = 4
binary_level binary.Same = 4
binary_level binary.NotSame = 4
binary_level binary.BitAnd = 5
binary_level binary.BitXor = 6
binary_level binary.BitOr = 7

abbrev pub level_of : Infix → ℕ
level_of (infixes.Binary o) = binary_level o
level_of infixes.And = 8
level_of infixes.Or = 9

-- two operands, joined
abbrev pub joined : Infix → Expr → Expr → ExprForm
joined (infixes.Binary o) a c = Binary o a c
joined infixes.And a c = And a c
joined infixes.Or a c = Or a c

-- the operator before its operand (11.4)
abbrev pub prefix_of : Sign → Option Prefix
prefix_of sign.Delete = Some (prefixes.Unary unary.Delete)
prefix_of sign.Void = Some (prefixes.Unary unary.Void)
prefix_of sign.TypeOf = Some (prefixes.Unary unary.TypeOf)
prefix_of sign.Plus = Some (prefixes.Unary unary.Plus)
prefix_of sign.Minus = Some (prefixes.Unary unary.Minus)
prefix_of sign.BitNot = Some (prefixes.Unary unary.BitNot)
prefix_of sign.Not = Some (prefixes.Unary unary.Not)
prefix_of sign.PlusPlus = Some (prefixes.Step step.PreInc)
prefix_of sign.MinusMinus = Some (prefixes.Step step.PreDec)
prefix_of _ = None

abbrev pub prefixed : Prefix → Expr → ExprForm
prefixed (prefixes.Unary o) e = Unary o e
prefixed (prefixes.Step o) e = Step o e

-- the step behind its operand (11.3)
abbrev pub step_of : Sign → Option StepOp
step_of sign.PlusPlus = Some step.PostInc
step_of sign.MinusMinus = Some step.PostDec
step_of _ = None

-- the assignment (11.13)
abbrev pub assign_of : Sign → Option AssignOp
assign_of sign.Assign = Some assign.Assign
assign_of sign.PlusAssign = Some assign.Add
assign_of sign.MinusAssign = Some assign.Sub
assign_of sign.StarAssign = Some assign.Mul
assign_of sign.SlashAssign = Some assign.Div
assign_of sign.PercentAssign = Some assign.Rem
assign_of sign.ShiftLeftAssign = Some assign.ShiftLeft
assign_of sign.ShiftRightAssign = Some assign.ShiftRight
assign_of sign.ShiftRightZeroAssign = Some assign.ShiftRightZero
assign_of sign.BitAndAssign = Some assign.BitAnd
assign_of sign.BitOrAssign = Some assign.BitOr
assign_of sign.BitXorAssign = Some assign.BitXor
assign_of _ = None

-- what may follow a primary in its own expression: a property, a subscript, arguments (11.2)
abbrev pub is_tail : Sign → Bool
is_tail sign.Point = true
is_tail sign.OpenSquare = true
is_tail sign.Open = true
is_tail _ = false

-- an expression statement does not begin so (12.4)
abbrev pub opens_other : Sign → Bool
opens_other sign.OpenBrace = true
opens_other sign.Function = true
opens_other _ = false

-- a digit
abbrev pub is_digit : ℕ → Bool
is_digit u = nat_le 48 u && nat_le u 57

abbrev pub are_digits : List ℕ → Bool
are_digits [] = true
are_digits (u ∷ us) = is_digit u && are_digits us

-- a `0` before another character
abbrev pub leads_zero : List ℕ → Bool
leads_zero (u ∷ v ∷ us) = nat_eq u 48
leads_zero _ = false

-- the number of these digits behind those of n
abbrev pub decimal : ℕ → List ℕ → ℕ
decimal n [] = n
decimal n (u ∷ us) = decimal (n * 10 + (u - 48)) us

-- digits alone, without a `0` before them, of at most 2^53 - 1
abbrev pub is_whole : List ℕ → Bool
is_whole us = are_digits us && (not (leads_zero us) && nat_le (decimal 0 us) 9007199254740991)

-- a key of an object literal (11.1.5)
abbrev pub is_key : Sign → List ℕ → Bool
is_key sign.Name text = true
is_key sign.Str text = true
is_key sign.Number text = is_whole text
is_key _ text = false
