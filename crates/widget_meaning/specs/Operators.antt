-- Operators on primitives.
use Rattle.std.specs.Prelude.{ℕ, ℤ, ◌+ℤ◌, ◌-ℤ◌, ◌*ℤ◌, neg_ℤ, unsigned_abs, int_lt, int_div, int_rem, List, [], ◌∷◌, ◌++◌, Bool, true, false, not, ◌&&◌, ◌||◌, nat_eq, nat_lt, length, if◌then◌else◌, codes}
use Rattle.std.specs.Str.{bytes_eq}
use Rattle.js_tree.specs.declared.nodes.BinOp.{BinOp}
use Rattle.js_tree.specs.declared.nodes.BinOp.TheVariants as bin
use Rattle.js_tree.specs.declared.nodes.UnOp.{UnOp}
use Rattle.js_tree.specs.declared.nodes.UnOp.TheVariants as un
use Rattle.code_units.specs.declared.whole.WholeRead.{WholeRead}
use Rattle.code_units.specs.declared.whole.WholeRead.TheVariants as read
use Rattle.widget_meaning.specs.Limits.{past_numbers, max_text}
use Rattle.widget_meaning.specs.Values.{Value, Undefined, Null, Truth, NaN, Num, Text, Own, Host, is_true, to_text, to_number}
use Rattle.permitted_table.specs.Table.{entry_number}

-- what an operator gives: a value; or it leaves the numbers, or joins a text that is too long
pub data OpOut : Type 0 where
  Gives : Value → OpOut
  Leaves : OpOut
  TooLong : OpOut

-- a whole number, where it is within the numbers
abbrev pub number : ℤ → OpOut
number z = if nat_lt (unsigned_abs z) past_numbers then Gives (Num z) else Leaves

-- a text, where it is not too long
abbrev pub text : List ℕ → OpOut
text t = if nat_lt max_text (length t) then TooLong else Gives (Text t)

-- a truth value
abbrev pub truth : Bool → OpOut
truth b = Gives (Truth b)

-- a function of two numbers: the first of these where one leaves the numbers, else the second where one is NaN
abbrev pub of_numbers : {A : Type 0} → A → A → (ℤ → ℤ → A) → WholeRead → WholeRead → A
of_numbers left nan f read.Left b = left
of_numbers left nan f a read.Left = left
of_numbers left nan f read.NotNumber b = nan
of_numbers left nan f a read.NotNumber = nan
of_numbers left nan f (read.Whole x) (read.Whole y) = f x y

-- an operator on the numbers of two primitives; NaN gives NaN
abbrev pub arithmetic : Value → Value → (ℤ → ℤ → OpOut) → OpOut
arithmetic a b f = of_numbers Leaves (Gives NaN) f (to_number a) (to_number b)

-- whether a number is 0
abbrev pub is_zero : ℤ → Bool
is_zero z = nat_eq (unsigned_abs z) 0

-- the remainder has the sign of the left, and is NaN by 0
abbrev pub remainder : ℤ → ℤ → OpOut
remainder x y = if is_zero y then Gives NaN else Gives (Num (int_rem x y))

-- a quotient is exact where the right is not 0 and divides the left; 0 / 0 is NaN; every other leaves the numbers
abbrev pub quotient : ℤ → ℤ → OpOut
quotient x y =
    if is_zero y then (if is_zero x then Gives NaN else Leaves)
    else if is_zero (int_rem x y) then Gives (Num (int_div x y))
    else Leaves

-- whether a value is a text
abbrev pub is_text : Value → Bool
is_text (Text t) = true
is_text _ = false

-- `+`: the texts are joined where either is a text; else the numbers are added
abbrev pub plus : Value → Value → OpOut
plus a b =
    if is_text a || is_text b then text (to_text a ++ to_text b)
    else arithmetic a b (λ x y. number (x +ℤ y))

-- texts in the order of their units
abbrev pub is_text_before : List ℕ → List ℕ → Bool
is_text_before t [] = false
is_text_before [] (v ∷ vs) = true
is_text_before (u ∷ us) (v ∷ vs) = nat_lt u v || (nat_eq u v && is_text_before us vs)

-- two texts are compared by units, else two numbers; NaN gives false
abbrev pub compare : (List ℕ → List ℕ → Bool) → (ℤ → ℤ → Bool) → Value → Value → OpOut
compare texts numbers (Text t) (Text u) = truth (texts t u)
compare texts numbers a b = of_numbers Leaves (truth false) (λ x y. truth (numbers x y)) (to_number a) (to_number b)

-- `===`: type and value, texts by units, objects by identity; NaN equals nothing
abbrev pub is_same : Value → Value → Bool
is_same Undefined Undefined = true
is_same Null Null = true
is_same (Truth a) (Truth b) = if a then b else not b
is_same (Num x) (Num y) = is_zero (x -ℤ y)
is_same (Text t) (Text u) = bytes_eq t u
is_same (Own m) (Own n) = nat_eq m n
is_same (Host g) (Host h) = nat_eq (entry_number g) (entry_number h)
is_same _ _ = false

-- an operator on two primitives; `===` and `!==` on any values
abbrev pub binary : BinOp → Value → Value → OpOut
binary bin.Add a b = plus a b
binary bin.Sub a b = arithmetic a b (λ x y. number (x -ℤ y))
binary bin.Mul a b = arithmetic a b (λ x y. number (x *ℤ y))
binary bin.Rem a b = arithmetic a b remainder
binary bin.Div a b = arithmetic a b quotient
binary bin.Less a b = compare is_text_before int_lt a b
binary bin.Greater a b = compare (λ t u. is_text_before u t) (λ x y. int_lt y x) a b
binary bin.LessEqual a b = compare (λ t u. not (is_text_before u t)) (λ x y. not (int_lt y x)) a b
binary bin.GreaterEqual a b = compare (λ t u. not (is_text_before t u)) (λ x y. not (int_lt x y)) a b
binary bin.Same a b = truth (is_same a b)
binary bin.NotSame a b = truth (not (is_same a b))
-- no accepted tree has the others
binary _ a b = Gives Undefined

-- the name of a value's type, where a function of the widget is told by the caller
abbrev pub type_name : Bool → Value → List ℕ
type_name f Undefined = codes "undefined"
type_name f Null = codes "object"
type_name f (Truth b) = codes "boolean"
type_name f NaN = codes "number"
type_name f (Num z) = codes "number"
type_name f (Text t) = codes "string"
type_name f (Own n) = if f then codes "function" else codes "object"
type_name f (Host h) = if f then codes "function" else codes "object"

-- the number of a primitive, and its negative
abbrev pub as_number : WholeRead → (ℤ → ℤ) → OpOut
as_number read.NotNumber f = Gives NaN
as_number (read.Whole z) f = Gives (Num (f z))
as_number read.Left f = Leaves

-- a prefix operator on a primitive
abbrev pub unary : UnOp → Value → OpOut
unary un.Plus a = as_number (to_number a) (λ z. z)
unary un.Minus a = as_number (to_number a) neg_ℤ
unary un.Not a = truth (not (is_true a))
-- `typeof` and `delete` are forms of their own; no accepted tree has the others
unary _ a = Gives Undefined
