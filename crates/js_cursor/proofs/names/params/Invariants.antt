use Rattle.std.proofs.Common.{length, ◌-◌}
use Rattle.js_cursor.proofs.Listed.{ParamsSoFar}
use Rattle.js_cursor.proofs.names.params.Given as goal

abbrev pub invariant-names : goal.invariant-names
invariant-names l = ParamsSoFar l.script l.fn.at l.place l.depth l.params.texts.items l.fn.places.items l.params.places.items

abbrev pub decreases-names : goal.decreases-names
decreases-names l = length l.script - l.place
