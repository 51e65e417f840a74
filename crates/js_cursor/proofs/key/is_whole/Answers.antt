use Rattle.std.proofs.Common.{arith}
use Rattle.js_cursor.proofs.Keys.{goes_past}
use Rattle.js_cursor.proofs.key.is_whole.Goals as goal

pub returns-then-number-gt-LARGEST : goal.returns-then-number-gt-LARGEST
returns-then-number-gt-LARGEST c = goes_past _ c.loop-unit.unit-index c.loop-unit.number (omega arith) c.loop-unit.invariant (omega arith) (omega arith) (omega arith)
