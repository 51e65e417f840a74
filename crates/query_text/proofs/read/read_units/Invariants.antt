use Rattle.std.proofs.Common.{◌-◌, length}
use Rattle.query_text.proofs.Reading.{StepsSoFar}
use Rattle.query_text.proofs.read.read_units.Given as goal

abbrev pub invariant-steps : goal.invariant-steps
invariant-steps l = StepsSoFar l.units l.steps.items l.at

abbrev pub decreases-steps : goal.decreases-steps
decreases-steps l = length l.units - l.at
