use Rattle.std.proofs.Common.{◌≡◌, ◌≤◌, ◌+◌, ◌-◌, length, drop}
use Rattle.std.specs.List.{prefix_len}
use Rattle.std.specs.Char.{is_digit}
use Rattle.plain_natives.proofs.numerals.digit_run.Given as goal

-- what was passed so far
abbrev pub invariant-loop-end : goal.invariant-loop-end
invariant-loop-end l = record {
  within : l.end ≤ length l.units;
  rest : prefix_len (λ u. is_digit u l.radix) l.units ≡ l.end + prefix_len (λ u. is_digit u l.radix) (drop l.end l.units);
}

abbrev pub decreases-loop-end : goal.decreases-loop-end
decreases-loop-end l = length l.units - l.end
