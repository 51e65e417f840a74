-- Natives that differ in one function alone.
use Rattle.std.specs.Prelude.{ℤ, pos, unsigned_abs, Bool, true, false}
use Rattle.std.specs.Int.{int_max, int_min}

-- `abs`, or a native that gives its number
abbrev pub changed : Bool → ℤ → ℤ
changed true z = pos (unsigned_abs z)
changed false z = z

-- `max`, or `min`
abbrev pub better : Bool → ℤ → ℤ → ℤ
better true = int_max
better false = int_min
