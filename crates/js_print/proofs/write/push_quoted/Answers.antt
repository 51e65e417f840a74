use Rattle.std.proofs.Common.{◌∷◌, [], ap}
use Rattle.js_pieces.specs.Spelling.{string_bytes}
use Rattle.js_print.proofs.Fronts.{goes_start, goes_on, goes_refused}
use Rattle.js_print.proofs.write.push_quoted.Goals as goal

pub units-init : goal.units-init
unfolding string_bytes
units-init c = goes_on _ _ _ _ (34 ∷ []) _ (goes_start _ _) c.in_ok-push.ensures.items

pub returns-in_err-push_quoted_unit : goal.returns-in_err-push_quoted_unit
returns-in_err-push_quoted_unit c = goes_refused _ _ _ c.units.out.items _ _ _ _ c.from_residual-in_err-push_quoted_unit.ensures.0 c.units.invariant (ap string_bytes c.units-unit-items.ensures) c.in_err-push_quoted_unit.ensures

pub returns-in_err-push-2 : goal.returns-in_err-push-2
returns-in_err-push-2 c = goes_refused _ _ _ c.units.out.items _ _ _ _ c.from_residual-in_err-push-2.ensures.0 c.units.invariant (ap string_bytes c.units-unit-items.ensures) c.in_err-push-2.ensures.items
