use Rattle.std.proofs.Common.{sym, ap, ◌∙◌}
use Rattle.std.proofs.lemmas.Result.{IfOk-weaker}
use Rattle.widget_meaning.specs.Plan.{after, and_then}
use Rattle.widget_meaning.specs.Operators.{unary}
use Rattle.widget_meaning.specs.Expressions.{result}
use Rattle.js_image.specs.Image.{image, seen}
use Rattle.js_names.specs.Code.{trees_of}
use Rattle.js_expressions.proofs.Values.{stays_primitive}
use Rattle.js_expressions.proofs.operating.convert_prefix.Goals as goal

pub returns-clause-plan : goal.returns-clause-plan
returns-clause-plan c =
    let fs = trees_of c.args.codes.now.items in
    let w = c.args.w in
    let s = c.args.store.now in
    let no = sym (c.is_object.ensures.object w s.cells) ∙ c.if-is_object.false in
    IfOk-weaker c.converted_prefix.result _ _
    (λ n h r. h r ∙ sym (ap (λ p. and_then p (after (λ u t. result (unary c.args.op.0 u) t))) (stays_primitive (seen w s.cells c.args.value) c.args.op.1 (image fs r w s) no)))
    c.converted_prefix.ensures.plan
