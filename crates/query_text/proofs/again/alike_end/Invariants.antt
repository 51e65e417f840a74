use Rattle.std.proofs.Common.{◌-◌, length}
use Rattle.query_text.proofs.Repeats.{AlikeSoFar}
use Rattle.query_text.proofs.again.alike_end.Given as goal

abbrev pub invariant-alike : goal.invariant-alike
invariant-alike l = AlikeSoFar l.units l.from l.to l.end

abbrev pub decreases-alike : goal.decreases-alike
decreases-alike l = length l.units - l.end
