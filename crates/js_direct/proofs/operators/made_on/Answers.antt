use Rattle.std.proofs.Common.{ap, ◌∙◌, arith}
use Rattle.std.proofs.lemmas.Result.{IfOk-weaker}
use Rattle.store_cells.specs.declared.value.Value.TheVariants as value
use Rattle.widget_meaning.specs.Costs.{give}
use Rattle.widget_meaning.specs.Expressions.{result}
use Rattle.widget_meaning.specs.Operators.{Gives}
use Rattle.widget_meaning.specs.Plan.{Halt}
use Rattle.widget_meaning.specs.Values as meaning
use Rattle.js_image.specs.Image.{image}
use Rattle.js_image.specs.Plans.{meant_cause, paid_plan}
use Rattle.js_values.specs.Operands.{plain}
use Rattle.js_names.specs.Code.{trees_of}
use Rattle.js_direct.proofs.FormFrames.{gives_value}
use Rattle.js_direct.proofs.Parts.{before_it}
use Rattle.js_direct.proofs.operators.made_on.Goals as goal

pub returns-in-Done-clause-comes : goal.returns-in-Done-clause-comes
returns-in-Done-clause-comes c =
    let fs = trees_of c.args.site.now.codes.now.items in
    let w = c.args.site.now.widget in
    let old = c.args.store.now in
    let new = c.pay_text.new.store in
    let k = give (meaning.Text c.in-Text.t) in
    gives_value fs w old new 1 (result (Gives (plain c.args.value))) c.args.run.now (value.Text c.in-Text.t) c.requires.ready.2
    (λ r. ap (λ v. result (Gives (plain v)) (image fs r w old)) c.in-Text.is
    ∙ (c.pay_text.ensures.plan fs r k ∙ ap (λ q. paid_plan q k (image fs r w new)) c.in-Done.is))
    tt (omega arith)

pub returns-in-Stop-clause-comes : goal.returns-in-Stop-clause-comes
returns-in-Stop-clause-comes c =
    let fs = trees_of c.args.site.now.codes.now.items in
    let w = c.args.site.now.widget in
    let old = c.args.store.now in
    let new = c.pay_text.new.store in
    let k = give (meaning.Text c.in-Text.t) in
    IfOk-weaker c.stop.result _ _
    (λ h x. before_it fs w old new 0 1 (result (Gives (plain c.args.value))) (λ t. Halt (meant_cause c.in-Stop.cause) t) c.args.run.now c.stop.new.run h _
    (λ r. ap (λ v. result (Gives (plain v)) (image fs r w old)) c.in-Text.is
    ∙ (c.pay_text.ensures.plan fs r k ∙ ap (λ q. paid_plan q k (image fs r w new)) c.in-Stop.is))
    (x fs w new c.args.out.now) (omega arith))
    c.stop.ensures.comes
