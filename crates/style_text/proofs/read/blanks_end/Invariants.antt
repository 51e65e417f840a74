use Rattle.std.proofs.Common.{◌≤◌, ◌-◌, length, drop}
use Rattle.style_text.specs.Styles.{Blanks}
use Rattle.style_text.proofs.read.blanks_end.Given as goal

abbrev pub invariant-blanks : goal.invariant-blanks
invariant-blanks l = record {
  order : l.at ≤ l.end;
  inside : l.end ≤ length l.units;
  blanks : Blanks (drop l.at l.units) (drop l.end l.units);
}

abbrev pub decreases-blanks : goal.decreases-blanks
decreases-blanks l = length l.units - l.end
