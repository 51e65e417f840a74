use Rattle.std.proofs.Common.{sym, ap, ◌∙◌, if◌then◌else◌, Bool}
use Rattle.std.proofs.lemmas.Result.{IfOk-weaker}
use Rattle.widget_meaning.specs.Plan.{and_then}
use Rattle.widget_meaning.specs.Calls.{to_primitive}
use Rattle.widget_meaning.specs.Operators.{binary}
use Rattle.widget_meaning.specs.Expressions.{converted_left, result}
use Rattle.js_image.specs.Image.{image, seen}
use Rattle.js_names.specs.Code.{trees_of}
use Rattle.js_expressions.proofs.Values.{stays_primitive}
use Rattle.js_expressions.proofs.operating.operate.Goals as goal

pub returns-then-not-is_converting-clause-plan : goal.returns-then-not-is_converting-clause-plan
returns-then-not-is_converting-clause-plan c =
    let fs = trees_of c.args.codes.now.items in
    let w = c.args.w in
    let s = c.args.store.now in
    let v = seen w s.cells c.args.left.now in
    let u = seen w s.cells c.args.right.now in
    let d = c.args.op.1 in
    let no = sym c.is_converting.ensures.converting ∙ c.if-not-is_converting.true in
    IfOk-weaker c.computed.result _ _
    (λ n h r. h r ∙ sym (ap (λ (b : Bool). if b then and_then (to_primitive v d (image fs r w s)) (converted_left c.args.op.0 u d) else result (binary c.args.op.0 v u) (image fs r w s)) no))
    c.computed.ensures.plan

pub returns-clause-plan : goal.returns-clause-plan
returns-clause-plan c =
    let fs = trees_of c.args.codes.now.items in
    let w = c.args.w in
    let s = c.args.store.now in
    let v = seen w s.cells c.args.left.now in
    let u = seen w s.cells c.args.right.now in
    let d = c.args.op.1 in
    let yes = sym c.is_converting.ensures.converting ∙ c.if-not-is_converting.false in
    let no = sym (c.is_object.ensures.object w s.cells) ∙ c.if-is_object.false in
    IfOk-weaker c.convert_right.result _ _
    (λ n h r. h r ∙ sym (ap (λ (b : Bool). if b then and_then (to_primitive v d (image fs r w s)) (converted_left c.args.op.0 u d) else result (binary c.args.op.0 v u) (image fs r w s)) yes
    ∙ ap (λ p. and_then p (converted_left c.args.op.0 u d)) (stays_primitive v d (image fs r w s) no)))
    c.convert_right.ensures.plan
