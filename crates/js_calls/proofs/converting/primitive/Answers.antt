use Rattle.std.proofs.Common.{sym, ◌∙◌}
use Rattle.std.proofs.lemmas.Result.{IfOk-weaker}
use Rattle.js_image.specs.Image.{image, seen}
use Rattle.js_names.specs.Code.{trees_of}
use Rattle.js_calls.proofs.Converted.{object_thrown, primitive_given}
use Rattle.js_calls.proofs.converting.primitive.Goals as goal

pub returns-then-is_object-clause-plan : goal.returns-then-is_object-clause-plan
returns-then-is_object-clause-plan c =
    let fs = trees_of c.args.codes.now.items in
    let s = c.args.store.now in
    IfOk-weaker c.throw.result _ _
    (λ n h r. h r ∙ object_thrown (seen c.args.w s.cells c.args.value) (image fs r c.args.w s) (sym (c.is_object.ensures c.args.w s.cells) ∙ c.if-is_object.true))
    c.throw.ensures.plan

pub returns-clause-plan : goal.returns-clause-plan
returns-clause-plan c =
    let fs = trees_of c.args.codes.now.items in
    let s = c.args.store.now in
    rw c.give.ensures (λ r. primitive_given (seen c.args.w s.cells c.args.value) (image fs r c.args.w s) (sym (c.is_object.ensures c.args.w s.cells) ∙ c.if-is_object.false))
