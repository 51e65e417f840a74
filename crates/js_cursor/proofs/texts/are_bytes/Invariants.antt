use Rattle.std.proofs.Common.{◌≡◌, take}
use Rattle.js_cursor.proofs.texts.are_bytes.Given as goal

abbrev pub invariant-loop-i : goal.invariant-loop-i
invariant-loop-i l = take l.i l.units ≡ take l.i l.bytes
