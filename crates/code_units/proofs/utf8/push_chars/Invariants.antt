use Rattle.std.proofs.Common.{◌≡◌, ◌++◌, ◌-◌, ◌≤◌, length, drop, IsUtf8}
use Rattle.code_units.specs.Utf8.{units_of}
use Rattle.code_units.proofs.utf8.push_chars.Given as goal

abbrev pub invariant-loop-at : goal.invariant-loop-at
invariant-loop-at l = record {
  order : l.from ≤ l.at;
  within : l.at ≤ length l.text;
  place : IsUtf8 (drop l.at l.text);
  whole : l.units.items ++ units_of (drop l.at l.text) ≡ l.initial.units.items ++ units_of (drop l.from l.text);
}

abbrev pub decreases-loop-at : goal.decreases-loop-at
decreases-loop-at l = length l.text - l.at
