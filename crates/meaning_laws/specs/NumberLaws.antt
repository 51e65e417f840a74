-- Forms whose value is always a number: the subscripts that compute a name can name nothing but an index.
use Rattle.std.specs.Prelude.{ℕ, List, ⊤}
use Rattle.js_tree.specs.Plain as tree
use Rattle.js_tree.specs.Plain.{ExprForm}
use Rattle.js_tree.specs.declared.nodes.UnOp.{UnOp}
use Rattle.js_tree.specs.declared.nodes.UnOp.TheVariants as un
use Rattle.js_tree.specs.declared.nodes.BinOp.{BinOp}
use Rattle.js_tree.specs.declared.nodes.BinOp.TheVariants as bin
use Rattle.widget_meaning.specs.Values.{Value, NaN, Num, Completion, Is}
use Rattle.widget_meaning.specs.OwnState.{State}
use Rattle.widget_meaning.specs.Plan.{Place, Eval, End, Ended}
use Rattle.widget_meaning.specs.Meaning.{meaning}

-- a number, or NaN
abbrev pub IsNumber : Value → Type 0
IsNumber NaN = ⊤
IsNumber (Num z) = ⊤
IsNumber v = ⊥

-- a completion whose value, if it has one, is a number
abbrev pub OfNumber : Completion → Type 0
OfNumber (Is v) = IsNumber v
OfNumber o = ⊤

-- an end of this kind
abbrev pub EndsInNumber : End → Type 0
EndsInNumber (Ended o) = OfNumber o
EndsInNumber e = ⊤

-- `+e` and `-e`
abbrev pub IsSign : UnOp → Type 0
IsSign un.Plus = ⊤
IsSign un.Minus = ⊤
IsSign op = ⊥

-- `e - e`, `e * e`, `e / e` and `e % e`
abbrev pub IsArithmetic : BinOp → Type 0
IsArithmetic bin.Sub = ⊤
IsArithmetic bin.Mul = ⊤
IsArithmetic bin.Div = ⊤
IsArithmetic bin.Rem = ⊤
IsArithmetic op = ⊥

-- these, steps, and numbers themselves
abbrev pub IsNumeric : ExprForm → Type 0
IsNumeric (tree.Num t) = ⊤
IsNumeric (tree.Step op e) = ⊤
IsNumeric (tree.Unary op e) = IsSign op
IsNumeric (tree.Binary op a b) = IsArithmetic op
IsNumeric form = ⊥

-- a form of these that ends with a value ends with a number, whatever its parts are
abbrev pub NumberLaws : Type 0
NumberLaws =
    (at : ℕ) (names : List ℕ) (form : ExprForm) (p : Place) (s : State) (g : ℕ) → IsNumeric form
    → EndsInNumber (meaning (Eval (tree.ExprAt at names form) p) s g).how
