use Rattle.std.proofs.Common.{◌-◌, ◌+◌, length}
use Rattle.js_tokens.proofs.Values.{UnitsSoFar}
use Rattle.js_tokens.proofs.value.string_units.Given as goal

abbrev pub invariant-units : goal.invariant-units
invariant-units l = UnitsSoFar l.text l.place l.mode l.units.items

abbrev pub decreases-units : goal.decreases-units
decreases-units l = length l.text + 1 - l.place
