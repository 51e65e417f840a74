use Rattle.std.proofs.Common.{◌≡◌, ◌≤◌, ◌-◌, false, length, drop}
use Rattle.style_text.specs.Machine.{Next, begin, goes}
use Rattle.style_text.specs.Reads.{blank_first}
use Rattle.style_text.specs.Used.{marks_of}
use Rattle.style_text.proofs.read.read_units.Given as goal

abbrev pub invariant-pairs : goal.invariant-pairs
invariant-pairs l = record {
  inside : l.at ≤ length l.units;
  first : blank_first (drop l.at l.units) ≡ false;
  marks : l.used ≡ marks_of l.pairs.items;
  read : goes l.units begin 0 ≡ goes l.units (Next l.pairs.items) l.at;
}

abbrev pub decreases-pairs : goal.decreases-pairs
decreases-pairs l = length l.units - l.at
