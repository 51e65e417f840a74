use Rattle.std.proofs.Common.{sym}
use Rattle.widget_meaning.specs.Costs.{give}
use Rattle.widget_meaning.specs.Values as meaning
use Rattle.js_names.specs.Code.{trees_of}
use Rattle.js_calls.proofs.converting.make_text.Goals as goal

pub returns-in-Done-clause-plan : goal.returns-in-Done-clause-plan
returns-in-Done-clause-plan c = rw c.give.ensures (λ r. sym (c.in-Done.ensures.plan (trees_of c.args.codes.now.items) r (give (meaning.Text c.args.text))))

pub returns-in-Stop-clause-plan : goal.returns-in-Stop-clause-plan
returns-in-Stop-clause-plan c = rw c.stop.ensures (λ r. sym (c.in-Stop.ensures.plan (trees_of c.args.codes.now.items) r (give (meaning.Text c.args.text))))

pub returns-in-Done-clause-kept : goal.returns-in-Done-clause-kept
returns-in-Done-clause-kept c = c.pay_text.ensures.kept (trees_of c.args.codes.now.items)

pub returns-in-Stop-clause-kept : goal.returns-in-Stop-clause-kept
returns-in-Stop-clause-kept c = c.pay_text.ensures.kept (trees_of c.args.codes.now.items)
