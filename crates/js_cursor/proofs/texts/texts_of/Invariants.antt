use Rattle.std.proofs.Common.{take}
use Rattle.js_cursor.specs.Texts.{AreTexts}
use Rattle.js_cursor.proofs.texts.texts_of.Given as goal

abbrev pub invariant-loop-token : goal.invariant-loop-token
invariant-loop-token l = AreTexts l.bytes (take l.token-index l.tokens) l.places.items l.list.items
