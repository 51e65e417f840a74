-- The kinds of units that stand in runs.
use Rattle.std.specs.Prelude.{ℕ, Bool, nat_lt, ◌==◌}
use Rattle.std.specs.Char.{is_digit}
use Rattle.code_units.specs.Whole.{is_blank}
use Rattle.code_units.specs.declared.runs.Kind.{Kind}
use Rattle.code_units.specs.declared.runs.Kind.TheVariants.{Digit, Hexadecimal, Zero, Blank, Ascii}

-- whether a unit is of the kind
abbrev pub is_of : Kind → ℕ → Bool
is_of Digit u = is_digit u 10
is_of Hexadecimal u = is_digit u 16
is_of Zero u = u == 48
is_of Blank u = is_blank u
is_of Ascii u = nat_lt u 128
