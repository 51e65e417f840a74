use Rattle.std.proofs.Common.{sym, ap, ◌∙◌}
use Rattle.std.proofs.lemmas.Result.{IfOk-weaker}
use Rattle.widget_meaning.specs.Costs.{give, make_text}
use Rattle.widget_meaning.specs.Plan.{on_normal}
use Rattle.widget_meaning.specs.Values as meaning
use Rattle.js_image.specs.Image.{image}
use Rattle.js_names.specs.Code.{trees_of}
use Rattle.js_flow.specs.Views.{completion_of}
use Rattle.js_calls.proofs.taking.take_text.Goals as goal

pub returns-in-Normal-clause-plan : goal.returns-in-Normal-clause-plan
returns-in-Normal-clause-plan c =
    let fs = trees_of c.args.codes.now.items in
    let w = c.args.w in
    let s = c.args.store.now in
    let t = c.args.text in
    IfOk-weaker c.make_text.result _ _
    (λ k h r. h r ∙ sym (ap (λ o. on_normal (completion_of w s.cells o) (image fs r w s) (make_text t (image fs r w s) (give (meaning.Text t)))) c.in-Normal.is))
    c.make_text.ensures.plan
