-- Numbers that natives take and give, and lengths.
use Rattle.std.specs.Prelude.{ℕ, ℤ, pos, min, ◌-◌, ◌^◌, Option, None, Some}
use Rattle.store_cells.specs.declared.value.Value.{Value as StoreValue}
use Rattle.store_cells.specs.declared.value.Value.TheVariants as value
use Rattle.js_values.specs.declared.outcome.OpOut.{OpOut}
use Rattle.js_values.specs.declared.outcome.OpOut.TheVariants as out
use Rattle.code_units.specs.declared.whole.WholeRead.{WholeRead}
use Rattle.code_units.specs.declared.whole.WholeRead.TheVariants as read
use Rattle.widget_meaning.specs.Values.{Value, Undefined, to_number}

-- the number, NaN as this one; none where it leaves the numbers
abbrev pub number_or : ℤ → WholeRead → Option ℤ
number_or z (read.Whole x) = Some x
number_or z read.NotNumber = Some z
number_or z read.Left = None

-- the same of an argument that may be absent, which then is this number; NaN as 0
abbrev pub optional_number : ℤ → Value → Option ℤ
optional_number z Undefined = Some z
optional_number z v = number_or (pos 0) (to_number v)

-- a length as it is counted: one past the largest `usize` stays there
abbrev pub counted : ℕ → ℕ
counted n = min n (2 ^ 64 - 1)

-- a primitive that is no text
abbrev pub IsSmall : StoreValue → Type 0
IsSmall (value.Text t) = ⊥
IsSmall (value.Ref i) = ⊥
IsSmall _ = Unit {0}

-- an operator gives such a primitive, or leaves the numbers
abbrev pub IsSmallOut : OpOut → Type 0
IsSmallOut (out.Is v) = IsSmall v
IsSmallOut out.Left = Unit {0}
IsSmallOut out.LongText = ⊥
