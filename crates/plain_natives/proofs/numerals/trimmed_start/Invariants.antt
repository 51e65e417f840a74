use Rattle.std.proofs.Common.{◌≡◌, ◌≤◌, ◌+◌, ◌-◌, length, drop}
use Rattle.std.specs.List.{prefix_len}
use Rattle.code_units.specs.Whole.{is_blank}
use Rattle.plain_natives.proofs.numerals.trimmed_start.Given as goal

-- what is cut off so far
abbrev pub invariant-loop-start : goal.invariant-loop-start
invariant-loop-start l = record {
  within : l.start ≤ length l.units;
  rest : prefix_len is_blank l.units ≡ l.start + prefix_len is_blank (drop l.start l.units);
}

abbrev pub decreases-loop-start : goal.decreases-loop-start
decreases-loop-start l = length l.units - l.start
