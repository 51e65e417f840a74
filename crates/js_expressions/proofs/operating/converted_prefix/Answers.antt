use Rattle.std.proofs.Common.{ap, ◌∙◌}
use Rattle.std.proofs.lemmas.Result.{IfOk-weaker}
use Rattle.widget_meaning.specs.Expressions as expressions
use Rattle.js_image.specs.Image.{image}
use Rattle.js_names.specs.Code.{trees_of}
use Rattle.js_expressions.proofs.operating.converted_prefix.Goals as goal

pub returns-clause-plan : goal.returns-clause-plan
returns-clause-plan c =
    let fs = trees_of c.args.codes.now.items in
    let w = c.args.w in
    let s = c.args.store.now in
    IfOk-weaker c.result_of.result _ _
    (λ n h r. h r ∙ ap (λ o. expressions.result o (image fs r w s)) (c.in_ok-out.ensures.value w s.cells))
    c.result_of.ensures.plan
