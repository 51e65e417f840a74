-- Primitives of the store as the meaning has them.
use Rattle.std.specs.Prelude.{Bool, true, false, not, if◌then◌else◌, nat_eq, nat_lt, ◌-ℤ◌, unsigned_abs}
use Rattle.std.specs.Str.{bytes_eq}
use Rattle.code_units.specs.declared.whole.WholeRead.{WholeRead}
use Rattle.code_units.specs.declared.whole.WholeRead.TheVariants as read
use Rattle.js_tree.specs.declared.nodes.BinOp.{BinOp}
use Rattle.js_tree.specs.declared.nodes.BinOp.TheVariants as bin
use Rattle.js_tree.specs.declared.nodes.UnOp.{UnOp}
use Rattle.js_tree.specs.declared.nodes.UnOp.TheVariants as un
use Rattle.store_cells.specs.declared.value.Value.{Value as StoreValue}
use Rattle.store_cells.specs.declared.value.Value.TheVariants as value
use Rattle.store_cells.specs.declared.value.Number.TheVariants as number
use Rattle.object_store.specs.Owned as store
use Rattle.widget_meaning.specs.Limits.{past_numbers}
use Rattle.widget_meaning.specs.Values.{Value, to_number}
use Rattle.widget_meaning.specs.Operators as operators
use Rattle.widget_meaning.specs.Operators.{OpOut}
use Rattle.js_image.specs.Image.{meant}
use Rattle.js_values.specs.declared.outcome.OpOut.{OpOut as Out}
use Rattle.js_values.specs.declared.outcome.OpOut.TheVariants as out

-- a primitive
abbrev pub IsPrimitive : StoreValue → Type 0
IsPrimitive (value.Ref i) = ⊥
IsPrimitive _ = Unit {0}

-- an operand of an operator: `===` and `!==` take any value, the others primitives
abbrev pub IsOperand : BinOp → StoreValue → Type 0
IsOperand bin.Same v = Unit {0}
IsOperand bin.NotSame v = Unit {0}
IsOperand _ v = IsPrimitive v

-- a primitive as the meaning has it; it is the same in each store
abbrev pub plain : StoreValue → Value
plain v = meant (store.Is v)

-- whether a primitive reads as a whole number that is none of the language's; no widget has one
abbrev pub is_outside : WholeRead → Bool
is_outside (read.Whole z) = not (nat_lt (unsigned_abs z) past_numbers)
is_outside _ = false

abbrev pub reads_outside : StoreValue → Bool
reads_outside v = is_outside (to_number (plain v))

-- `+`, which may join texts
abbrev pub is_adding : BinOp → Bool
is_adding bin.Add = true
is_adding _ = false

-- what an operator gives
abbrev pub meant_out : Out → OpOut
meant_out (out.Is v) = operators.Gives (plain v)
meant_out out.Left = operators.Leaves
meant_out out.LongText = operators.TooLong

-- what an operator gives is a primitive
abbrev pub IsPlainOut : Out → Type 0
IsPlainOut (out.Is v) = IsPrimitive v
IsPlainOut _ = Unit {0}

-- whether two values of the store are the same: type and value, texts by units, objects by identity; NaN equals nothing
abbrev pub is_equal : StoreValue → StoreValue → Bool
is_equal value.Undefined value.Undefined = true
is_equal value.Null value.Null = true
is_equal (value.Bool a) (value.Bool b) = if a then b else not b
is_equal (value.Num (number.Whole x)) (value.Num (number.Whole y)) = operators.is_zero (x -ℤ y)
is_equal (value.Text t) (value.Text u) = bytes_eq t u
is_equal (value.Ref i) (value.Ref j) = nat_eq i j
is_equal _ _ = false

-- an operand of a prefix operator: `+` and `-` take primitives, `!` any value
abbrev pub IsPrefixed : UnOp → StoreValue → Type 0
IsPrefixed un.Plus v = IsPrimitive v
IsPrefixed un.Minus v = IsPrimitive v
IsPrefixed _ v = Unit {0}
