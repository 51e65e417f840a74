use Rattle.std.proofs.Common.{◌≡◌, ◌^◌, true, take, min}
use Rattle.std.specs.List.{list_all}
use Rattle.std.specs.Char.{is_digit}
use Rattle.std.specs.Str.Parse.{digits_value}
use Rattle.code_units.proofs.whole.numeral.Given as goal

abbrev pub invariant-loop-at : goal.invariant-loop-at
invariant-loop-at l = record {
  digits : list_all (λ u. is_digit u l.radix) (take l.at l.units) ≡ true;
  value : l.n ≡ min (digits_value l.radix (take l.at l.units)) (2 ^ 53);
}
