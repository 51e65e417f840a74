use Rattle.std.proofs.Common.{sym, ap, ◌∙◌}
use Rattle.widget_meaning.specs.Values as meaning
use Rattle.widget_meaning.specs.Costs.{give}
use Rattle.widget_meaning.specs.Operators as operators
use Rattle.widget_meaning.specs.Expressions as expressions
use Rattle.js_image.specs.Image.{image}
use Rattle.js_image.specs.Plans.{paid_plan}
use Rattle.js_values.specs.Operands.{plain}
use Rattle.js_names.specs.Code.{trees_of}
use Rattle.js_expressions.proofs.Values.{given}
use Rattle.js_expressions.proofs.operating.give_value.Goals as goal

pub returns-in-Done-clause-plan : goal.returns-in-Done-clause-plan
returns-in-Done-clause-plan c =
    let fs = trees_of c.args.codes.now.items in
    let w = c.args.w in
    let k = give (meaning.Text c.in-Text.t) in
    rw c.give.ensures (λ r. sym (ap (λ v. expressions.result (operators.Gives (plain v)) (image fs r w c.args.store.now)) c.in-Text.is
    ∙ (c.pay_text.ensures.plan fs r k ∙ ap (λ p. paid_plan p k (image fs r w c.pay_text.new.store)) c.in-Done.is)))

pub returns-in-Done-clause-kept : goal.returns-in-Done-clause-kept
returns-in-Done-clause-kept c = c.pay_text.ensures.kept (trees_of c.args.codes.now.items)

pub returns-in-Stop-clause-plan : goal.returns-in-Stop-clause-plan
returns-in-Stop-clause-plan c =
    let fs = trees_of c.args.codes.now.items in
    let w = c.args.w in
    let k = give (meaning.Text c.in-Text.t) in
    rw c.stop.ensures (λ r. sym (ap (λ v. expressions.result (operators.Gives (plain v)) (image fs r w c.args.store.now)) c.in-Text.is
    ∙ (c.pay_text.ensures.plan fs r k ∙ ap (λ p. paid_plan p k (image fs r w c.pay_text.new.store)) c.in-Stop.is)))

pub returns-in-Stop-clause-kept : goal.returns-in-Stop-clause-kept
returns-in-Stop-clause-kept c = c.pay_text.ensures.kept (trees_of c.args.codes.now.items)

pub returns-in_default-clause-plan : goal.returns-in_default-clause-plan
returns-in_default-clause-plan c = rw c.give-in_default.ensures (λ r. given c.args.w c.args.store.now.cells c.args.value (image (trees_of c.args.codes.now.items) r c.args.w c.args.store.now) c.requires.plain c.in_default.not-Text)
