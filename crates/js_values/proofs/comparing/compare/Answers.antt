use Rattle.std.proofs.Common.{sym, ◌∙◌}
use Rattle.js_values.specs.Operands.{plain}
use Rattle.js_values.proofs.Orders.{means}
use Rattle.js_values.proofs.comparing.compare.Goals as goal

pub returns-clause-means : goal.returns-clause-means
returns-clause-means c = λ op h. means op (plain c.args.a.now) (plain c.args.b.now) c.in-Some.compared h (sym c.order.ensures ∙ c.in-Some.is)
