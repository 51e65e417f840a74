use Rattle.std.proofs.Common.{◌<◌}
use Rattle.js_cursor.specs.declared.texts.TheConstants.{SLOTS}
use Rattle.js_cursor.proofs.texts.slot_of.Given as goal

abbrev pub invariant-loop-byte : goal.invariant-loop-byte
invariant-loop-byte l = l.slot < SLOTS
