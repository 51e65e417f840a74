use Rattle.js_descent.proofs.Exprs.{step_ends, no_step, step_inside}
use Rattle.js_descent.proofs.expressions.stepped.Goals as goal

pub returns-in-Some : goal.returns-in-Some
returns-in-Some c = step_ends _ _ _ _ _ c.args.left c.in-Some.operator _ _ _ c.requires.ready c.peek.ensures.here c.in-Some.ensures (c.peek.ensures.inside (step_inside _ _ c.in-Some.ensures)) c.expr_at-place.ensures c.add_plain.ensures

pub returns-in-None : goal.returns-in-None
returns-in-None c = no_step _ _ _ _ c.args.left _ c.requires.ready c.requires.left c.peek.ensures.here c.in-None.ensures c.requires.unassigned
