use Rattle.std.proofs.Common.{refl, inl}
use Rattle.js_cursor.proofs.names.jump_label.Goals as goal

pub returns-in_default : goal.returns-in_default
returns-in_default c = (_, refl, inl (refl, _, c.peek.ensures.here, c.in_default.not-Name, c.in_default.not-Semicolon))
