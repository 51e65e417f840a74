use Rattle.std.proofs.Common.{ap, sym, ◌∙◌}
use Rattle.js_values.proofs.Orders.{in_order, ordered}
use Rattle.js_values.proofs.comparing.text_order.Goals as goal

pub returns-in-Less : goal.returns-in-Less
returns-in-Less c = ap ordered (sym c.in-Less.is) ∙ in_order c.args.t.now c.args.u.now c.cmp.result c.cmp.ensures

pub returns-in-Equal : goal.returns-in-Equal
returns-in-Equal c = ap ordered (sym c.in-Equal.is) ∙ in_order c.args.t.now c.args.u.now c.cmp.result c.cmp.ensures

pub returns-in-Greater : goal.returns-in-Greater
returns-in-Greater c = ap ordered (sym c.in-Greater.is) ∙ in_order c.args.t.now c.args.u.now c.cmp.result c.cmp.ensures
