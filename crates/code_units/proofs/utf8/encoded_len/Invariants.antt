use Rattle.std.proofs.Common.{◌≡◌, ◌+◌, ◌*◌, ◌-◌, ◌≤◌, length, drop}
use Rattle.code_units.specs.Utf8.{utf8_of}
use Rattle.code_units.proofs.utf8.encoded_len.Given as goal

abbrev pub invariant-loop-at : goal.invariant-loop-at
invariant-loop-at l = record {
  within : l.at ≤ length l.units;
  most : l.bytes ≤ 4 * l.at;
  whole : l.bytes + length (utf8_of (drop l.at l.units)) ≡ length (utf8_of l.units);
}

abbrev pub decreases-loop-at : goal.decreases-loop-at
decreases-loop-at l = length l.units - l.at
