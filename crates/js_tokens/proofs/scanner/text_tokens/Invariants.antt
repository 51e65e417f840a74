use Rattle.std.proofs.Common.{◌-◌, ◌+◌, length}
use Rattle.js_tokens.proofs.Turns.{SoFar}
use Rattle.js_tokens.proofs.scanner.text_tokens.Given as goal

abbrev pub invariant-text : goal.invariant-text
invariant-text l = SoFar l.text l.place l.list.items

abbrev pub decreases-text : goal.decreases-text
decreases-text l = length l.text + 1 - l.place
