use Rattle.std.proofs.Common.{ap, sym, ◌∙◌}
use Rattle.widget_meaning.specs.Operators.{truth}
use Rattle.js_values.specs.Operands.{plain}
use Rattle.js_values.proofs.Orders.{means}
use Rattle.js_values.proofs.comparing.comparison.Goals as goal

pub returns-in-Some-clause-value : goal.returns-in-Some-clause-value
returns-in-Some-clause-value c = ap truth c.holds.ensures ∙ sym (means c.args.op (plain c.args.a.now) (plain c.args.b.now) c.in-Some.compared c.requires.comparison (sym c.order.ensures ∙ c.in-Some.is))
