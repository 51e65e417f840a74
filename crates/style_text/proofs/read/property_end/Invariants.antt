use Rattle.std.proofs.Common.{◌≡◌, ◌≤◌, ◌-◌, List, [], length}
use Rattle.std.specs.Prelude.{slice_range}
use Rattle.style_text.specs.Styles.{Pair}
use Rattle.style_text.specs.Machine.{Name, goes}
use Rattle.style_text.specs.Used.{marks_of}
use Rattle.style_text.proofs.read.property_end.Given as goal

abbrev pub invariant-property : goal.invariant-property
invariant-property l = record {
  order : l.at ≤ l.end;
  inside : l.end ≤ length l.units;
  read : (pairs : List Pair) → l.used ≡ marks_of pairs → goes l.units (Name pairs []) l.at ≡ goes l.units (Name pairs (slice_range l.units l.at l.end)) l.end;
}

abbrev pub decreases-property : goal.decreases-property
decreases-property l = length l.units - l.end
