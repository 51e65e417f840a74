use Rattle.std.proofs.Common.{length, ◌-◌}
use Rattle.js_cursor.proofs.Listed.{LabelsSoFar}
use Rattle.js_cursor.proofs.names.labels.Given as goal

abbrev pub invariant-labels : goal.invariant-labels
invariant-labels l = LabelsSoFar l.script l.fn.at l.labels.items l.place

abbrev pub decreases-labels : goal.decreases-labels
decreases-labels l = length l.script - l.place
