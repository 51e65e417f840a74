use Rattle.std.proofs.Common.{◌-◌, length}
use Rattle.query_text.specs.Runs.{passes}
use Rattle.query_text.proofs.Cuts.{RunSoFar}
use Rattle.query_text.proofs.parts.run_end.Given as goal

abbrev pub invariant-run : goal.invariant-run
invariant-run l = RunSoFar l.units (passes l.run) l.at l.end

abbrev pub decreases-run : goal.decreases-run
decreases-run l = length l.units - l.end
