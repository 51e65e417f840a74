use Rattle.js_tokens.proofs.Values.{units_end}
use Rattle.js_tokens.proofs.value.string_units.Goals as goal

pub returns : goal.returns
returns c = units_end _ _ _ _ c.in_default.ensures c.units.invariant
