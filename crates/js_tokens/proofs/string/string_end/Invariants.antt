use Rattle.std.proofs.Common.{◌+◌, ◌-◌, length}
use Rattle.js_tokens.proofs.Loops.{StringSoFar}
use Rattle.js_tokens.proofs.string.string_end.Given as goal

abbrev pub invariant-string : goal.invariant-string
invariant-string l = StringSoFar l.text l.at l.quote l.place l.bad

abbrev pub decreases-string : goal.decreases-string
decreases-string l = length l.text + 1 - l.place
