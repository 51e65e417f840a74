-- Methods that differ in one function alone.
use Rattle.std.specs.Prelude.{ℕ, ℤ, Bool, true, false, List, length, slice_range}
use Rattle.widget_meaning.specs.Values.{Value}
use Rattle.widget_meaning.specs.OwnState.{State}
use Rattle.widget_meaning.specs.Plan.{Plan}
use Rattle.widget_meaning.specs.TextNatives.{between, substring, text_slice}
use Rattle.widget_meaning.specs.NativeForms.{clamped, from_end}

-- `slice`, or `substring`
abbrev pub cut : Bool → List ℕ → Value → Value → State → Plan
cut true = text_slice
cut false = substring

-- what they give of a text by two positions
abbrev pub part : Bool → List ℕ → ℤ → ℤ → List ℕ
part true t x y = slice_range t (from_end (length t) x) (from_end (length t) y)
part false t x y = between t (clamped (length t) x) (clamped (length t) y)
