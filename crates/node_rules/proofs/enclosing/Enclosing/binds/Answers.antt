use Rattle.node_rules.proofs.Open.{bound_iff}
use Rattle.node_rules.proofs.enclosing.Enclosing.binds.Goals as goal

pub returns : goal.returns
returns c = λ f known.
    let h = bound_iff f c.args.self.now.stack.items c.args.name.now known in
    ((λ t. h.0 (c.is_counted.ensures.0 t)), (λ b. c.is_counted.ensures.1 (h.1 b)))
