-- What `parseInt` reads of a text.
use Rattle.std.proofs.Common.{ℕ, ℤ, List}
use Rattle.std.specs.Str.Parse.{starts_with_minus, without_leading_sign}
use Rattle.code_units.specs.Whole.{trimmed_start}
use Rattle.widget_meaning.specs.GlobalNatives.{parsed}
use Rattle.widget_meaning.specs.Operators.{OpOut}

-- by its units and the radix
abbrev pub parsed_of : List ℕ → ℤ → OpOut
parsed_of us z = parsed (starts_with_minus (trimmed_start us)) (without_leading_sign (trimmed_start us)) z
