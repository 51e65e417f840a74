use Rattle.std.proofs.Common.{Bool, not, sym, ap, ◌∙◌}
use Rattle.std.proofs.lemmas.Result.{IfOk-weaker}
use Rattle.widget_meaning.specs.Values as meaning
use Rattle.widget_meaning.specs.Costs.{want}
use Rattle.widget_meaning.specs.Plan.{Ret}
use Rattle.js_image.specs.Image.{image, seen}
use Rattle.js_names.specs.Code.{trees_of}
use Rattle.js_expressions.proofs.reading.refer.Goals as goal

pub returns-then-is_nothing-clause-plan : goal.returns-then-is_nothing-clause-plan
returns-then-is_nothing-clause-plan c =
    let fs = trees_of c.args.codes.now.items in
    let w = c.args.w in
    let s = c.args.store.now in
    let b = seen w s.cells c.args.base in
    let yes = sym (c.is_nothing.ensures w s.cells) ∙ c.if-is_nothing.true in
    IfOk-weaker c.throw.result _ _
    (λ n h r. h r ∙ sym (ap (λ (t : Bool). want meaning.E1 (not t) (image fs r w s) (Ret (meaning.Refers (meaning.Property b c.args.name)) (image fs r w s))) yes))
    c.throw.ensures.plan
