use Rattle.js_print.proofs.Fronts.{refused, front_none}
use Rattle.js_print.proofs.print.step.Goals as goal

pub returns-in_err-expand-in_default : goal.returns-in_err-expand-in_default
returns-in_err-expand-in_default c = refused _ _ _ c.from_residual-in_err-expand-in_default.ensures.0 (front_none _ _)
