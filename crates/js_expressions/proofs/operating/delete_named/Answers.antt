use Rattle.std.proofs.Common.{sym, ap, ◌∙◌, Bool}
use Rattle.std.proofs.lemmas.Result.{IfOk-weaker}
use Rattle.widget_meaning.specs.Values as meaning
use Rattle.widget_meaning.specs.OwnState.{State}
use Rattle.widget_meaning.specs.Plan.{Plan}
use Rattle.widget_meaning.specs.Costs.{give}
use Rattle.js_image.specs.Image.{image}
use Rattle.js_image.specs.Plans.{removed_plan}
use Rattle.js_image.proofs.Units.{kept_then}
use Rattle.js_names.specs.Code.{trees_of}
use Rattle.js_expressions.proofs.operating.delete_named.Goals as goal

pub returns-in-Done-clause-kept : goal.returns-in-Done-clause-kept
returns-in-Done-clause-kept c = c.remove.ensures.kept (trees_of c.args.codes.now.items)

pub returns-in-Throw-clause-plan : goal.returns-in-Throw-clause-plan
returns-in-Throw-clause-plan c =
    let fs = trees_of c.args.codes.now.items in
    let w = c.args.w in
    let mid = c.remove.new.store in
    let k : Bool → State → Plan = λ b t. give (meaning.Truth b) t in
    IfOk-weaker c.throw.result _ _
    (λ n h r. h r ∙ sym (c.remove.ensures.plan fs r k ∙ ap (λ q. removed_plan q k (image fs r w mid)) c.in-Throw.is))
    c.throw.ensures.plan

pub returns-in-Throw-clause-kept : goal.returns-in-Throw-clause-kept
returns-in-Throw-clause-kept c =
    let fs = trees_of c.args.codes.now.items in
    kept_then fs c.args.w c.args.store.now c.remove.new.store c.throw.new.store (c.remove.ensures.kept fs) c.throw.ensures.kept
