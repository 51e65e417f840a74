use Rattle.std.proofs.Common.{◌≡◌, ◌++◌, ◌-◌, ◌≤◌, length, drop, List, ℕ}
use Rattle.code_units.specs.Utf8.{utf8_of}
use Rattle.code_units.proofs.utf8.push_code_points.Given as goal

abbrev pub invariant-loop-at : goal.invariant-loop-at
invariant-loop-at l = record {
  order : l.from ≤ l.at;
  within : l.at ≤ length l.units;
  whole : l.out.items ++ utf8_of (drop l.at l.units) ≡ l.initial.out.items ++ utf8_of (drop l.from l.units);
  front : (made : List ℕ) × (l.out.items ≡ l.initial.out.items ++ made);
}

abbrev pub decreases-loop-at : goal.decreases-loop-at
decreases-loop-at l = length l.units - l.at
