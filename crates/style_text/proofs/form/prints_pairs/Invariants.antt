use Rattle.std.proofs.Common.{◌≡◌, ◌≤◌, ◌-◌, false, length, drop}
use Rattle.style_text.specs.Reads.{blank_first}
use Rattle.style_text.proofs.PrintedForm.{IsPrinted}
use Rattle.style_text.proofs.form.prints_pairs.Given as goal

abbrev pub invariant-pairs : goal.invariant-pairs
invariant-pairs l = record {
  inside : l.at ≤ length l.units;
  first : blank_first (drop l.at l.units) ≡ false;
  printed : IsPrinted l.units l.text l.used l.first l.at l.rest;
}

abbrev pub decreases-pairs : goal.decreases-pairs
decreases-pairs l = length l.units - l.at
