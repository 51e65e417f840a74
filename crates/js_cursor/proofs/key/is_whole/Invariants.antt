use Rattle.js_cursor.proofs.Keys.{WholeSoFar}
use Rattle.js_cursor.proofs.key.is_whole.Given as goal

abbrev pub invariant-loop-unit : goal.invariant-loop-unit
invariant-loop-unit l = WholeSoFar l.units l.unit-index l.number
