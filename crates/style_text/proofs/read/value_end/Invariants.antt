use Rattle.std.proofs.Common.{◌-◌, length}
use Rattle.style_text.proofs.Reading.{ValueSoFar}
use Rattle.style_text.proofs.read.value_end.Given as goal

abbrev pub invariant-value : goal.invariant-value
invariant-value l = ValueSoFar l.units l.at l.end l.place

abbrev pub decreases-value : goal.decreases-value
decreases-value l = length l.units - l.place
