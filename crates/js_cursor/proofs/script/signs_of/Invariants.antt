use Rattle.std.proofs.Common.{◌≡◌, map, take}
use Rattle.js_cursor.specs.Signs.{sign_of}
use Rattle.js_cursor.proofs.script.signs_of.Given as goal

abbrev pub invariant-loop-token : goal.invariant-loop-token
invariant-loop-token l = l.signs.items ≡ map (sign_of l.bytes) (take l.token-index l.tokens)
