-- What the rules ask of the form of one node and of its direct parts.
use Rattle.std.specs.Prelude.{ℕ, Bool, true, false, List, [], ◌∷◌, ◌&&◌, not, if◌then◌else◌, codes}
use Rattle.std.specs.Str.{bytes_eq}
use Rattle.js_tree.specs.declared.nodes.Word.{Word}
use Rattle.js_tree.specs.declared.nodes.Word.TheVariants as word
use Rattle.js_tree.specs.declared.nodes.UnOp.{UnOp}
use Rattle.js_tree.specs.declared.nodes.UnOp.TheVariants as unary
use Rattle.js_tree.specs.declared.nodes.BinOp.{BinOp}
use Rattle.js_tree.specs.declared.nodes.BinOp.TheVariants as binary
use Rattle.js_tree.specs.declared.nodes.AssignOp.{AssignOp}
use Rattle.js_tree.specs.declared.nodes.AssignOp.TheVariants as assign
use Rattle.js_tree.specs.Plain.{Expr, ExprAt, ExprForm, Num, Str, Name, Constant, Dot, Sub, Call, New, Step, Unary, Binary, Assign, Comma, Stmt, StmtAt, StmtForm, Only, With, expr_place}
use Rattle.node_rules.specs.Words.{is_callable}
use Rattle.node_rules.specs.Numbers.{is_refused_number}

-- the expression is the name
abbrev pub is_name : List ℕ → Expr → Bool
is_name text (ExprAt at names (Name x)) = bytes_eq x text
is_name text _ = false

-- the expression is a string
abbrev pub is_string : Expr → Bool
is_string (ExprAt at names (Str x)) = true
is_string _ = false

-- A04: `this`
abbrev pub is_this_word : Word → Bool
is_this_word word.This = true
is_this_word _ = false

abbrev pub is_this : ExprForm → Bool
is_this (Constant w) = is_this_word w
is_this _ = false

-- A07: the subscripts that are allowed: a number, a string, a step, `+e`, `-e`, and a difference, product, quotient or remainder
abbrev pub is_sign : UnOp → Bool
is_sign unary.Plus = true
is_sign unary.Minus = true
is_sign _ = false

abbrev pub is_numeric : BinOp → Bool
is_numeric binary.Sub = true
is_numeric binary.Mul = true
is_numeric binary.Div = true
is_numeric binary.Rem = true
is_numeric _ = false

abbrev pub is_subscript : Expr → Bool
is_subscript (ExprAt at names (Num x)) = true
is_subscript (ExprAt at names (Str x)) = true
is_subscript (ExprAt at names (Step op e)) = true
is_subscript (ExprAt at names (Unary op e)) = is_sign op
is_subscript (ExprAt at names (Binary op a b)) = is_numeric op
is_subscript _ = false

abbrev pub wrong_subscripts : ExprForm → List ℕ
wrong_subscripts (Sub e key) = if is_subscript key then [] else expr_place key ∷ []
wrong_subscripts _ = []

-- A09: the name `ADSAFE`
abbrev pub is_adsafe : ExprForm → Bool
is_adsafe (Name x) = bytes_eq x (codes "ADSAFE")
is_adsafe _ = false

-- the callee of a call that A09 allows: `ADSAFE.x` with a listed x
abbrev pub is_allowed_callee : Expr → Bool
is_allowed_callee (ExprAt at names (Dot e x)) = is_name (codes "ADSAFE") e && is_callable x
is_allowed_callee _ = false

-- A10: a property of the name `Math`
abbrev pub is_of_math : ExprForm → Bool
is_of_math (Dot e x) = is_name (codes "Math") e
is_of_math (Sub e key) = is_name (codes "Math") e
is_of_math _ = false

-- A11: `with`
abbrev pub is_with : StmtForm → Bool
is_with (With e body) = true
is_with _ = false

-- A12: `==` and `!=`
abbrev pub is_loose : BinOp → Bool
is_loose binary.Equal = true
is_loose binary.NotEqual = true
is_loose _ = false

abbrev pub is_loose_equality : ExprForm → Bool
is_loose_equality (Binary op a b) = is_loose op
is_loose_equality _ = false

-- A13: bitwise operators and shifts, also in an assignment
abbrev pub is_bit : BinOp → Bool
is_bit binary.ShiftLeft = true
is_bit binary.ShiftRight = true
is_bit binary.ShiftRightZero = true
is_bit binary.BitAnd = true
is_bit binary.BitXor = true
is_bit binary.BitOr = true
is_bit _ = false

abbrev pub is_bit_assign : AssignOp → Bool
is_bit_assign assign.ShiftLeft = true
is_bit_assign assign.ShiftRight = true
is_bit_assign assign.ShiftRightZero = true
is_bit_assign assign.BitAnd = true
is_bit_assign assign.BitXor = true
is_bit_assign assign.BitOr = true
is_bit_assign _ = false

abbrev pub is_bit_not : UnOp → Bool
is_bit_not unary.BitNot = true
is_bit_not _ = false

abbrev pub is_bitwise : ExprForm → Bool
is_bitwise (Unary op e) = is_bit_not op
is_bitwise (Binary op a b) = is_bit op
is_bitwise (Assign op a b) = is_bit_assign op
is_bitwise _ = false

-- A14: `new`, `instanceof` and the operator `in`
abbrev pub is_of_type : BinOp → Bool
is_of_type binary.InstanceOf = true
is_of_type binary.In = true
is_of_type _ = false

abbrev pub is_typed : ExprForm → Bool
is_typed (New e args) = true
is_typed (Binary op a b) = is_of_type op
is_typed _ = false

-- A15: `void` and the comma operator
abbrev pub is_void : UnOp → Bool
is_void unary.Void = true
is_void _ = false

abbrev pub is_dropping : ExprForm → Bool
is_dropping (Unary op e) = is_void op
is_dropping (Comma a b) = true
is_dropping _ = false

-- A17: a number literal that is refused
abbrev pub is_wrong_number : ExprForm → Bool
is_wrong_number (Num text) = is_refused_number text
is_wrong_number _ = false

-- A18: an expression statement that is no assignment, call, step or `delete`
abbrev pub is_delete : UnOp → Bool
is_delete unary.Delete = true
is_delete _ = false

abbrev pub is_act : Expr → Bool
is_act (ExprAt at names (Assign op a b)) = true
is_act (ExprAt at names (Call e args)) = true
is_act (ExprAt at names (Step op e)) = true
is_act (ExprAt at names (Unary op e)) = is_delete op
is_act _ = false

abbrev pub is_idle : StmtForm → Bool
is_idle (Only e) = not (is_act e)
is_idle _ = false

-- A19: what may be assigned and stepped, and what may be deleted
abbrev pub is_target : Expr → Bool
is_target (ExprAt at names (Name x)) = true
is_target (ExprAt at names (Dot e x)) = true
is_target (ExprAt at names (Sub e key)) = true
is_target _ = false

abbrev pub is_property : Expr → Bool
is_property (ExprAt at names (Dot e x)) = true
is_property (ExprAt at names (Sub e key)) = true
is_property _ = false

abbrev pub wrong_targets : ExprForm → List ℕ
wrong_targets (Assign op a b) = if is_target a then [] else expr_place a ∷ []
wrong_targets (Step op a) = if is_target a then [] else expr_place a ∷ []
wrong_targets (Unary op a) = if is_delete op then (if is_property a then [] else expr_place a ∷ []) else []
wrong_targets _ = []

-- the string "use strict" as a statement
abbrev pub is_text : List ℕ → Expr → Bool
is_text text (ExprAt at names (Str x)) = bytes_eq x text
is_text text _ = false

abbrev pub is_directive : Stmt → Bool
is_directive (StmtAt at names (Only e)) = is_text (codes "use strict") e
is_directive _ = false
