use Rattle.std.proofs.Common.{◌≡◌, ◌^◌, take, min}
use Rattle.std.specs.Str.Parse.{digits_value}
use Rattle.plain_natives.proofs.numerals.value_of.Given as goal

abbrev pub invariant-loop-unit : goal.invariant-loop-unit
invariant-loop-unit l = l.n ≡ min (digits_value l.radix (take l.unit-index l.units)) (2 ^ 53)
