use Rattle.std.proofs.Common.{sym, ap, ◌∙◌, arith}
use Rattle.std.proofs.lemmas.Result.{IfOk-weaker}
use Rattle.widget_meaning.specs.Expressions.{operate, result}
use Rattle.js_image.specs.Image.{image, seen}
use Rattle.js_values.specs.Operands.{meant_out}
use Rattle.js_names.specs.Code.{trees_of}
use Rattle.js_direct.proofs.FormFrames.{instead}
use Rattle.js_direct.proofs.Values.{operated}
use Rattle.js_direct.proofs.operators.operate_any.Goals as goal

pub returns-then-is_ready-clause-comes : goal.returns-then-is_ready-clause-comes
returns-then-is_ready-clause-comes c =
    let fs = trees_of c.args.site.now.codes.now.items in
    let w = c.args.site.now.widget in
    let old = c.args.store.now in
    let a = c.args.left.now in
    let b = c.args.out.now in
    let ready = c.is_ready.ensures c.if-is_ready.true in
    IfOk-weaker c.result_on.result _ _
    (λ h x. instead fs w old c.result_on.new.store 1 8 (result (meant_out c.in_ok-found.found)) (operate c.args.op (seen w old.cells a) (seen w old.cells b) c.args.depth) c.args.run.now c.result_on.new.run h _ x
    (λ r. operated c.args.op w old.cells a b c.args.depth (image fs r w old) ready.0 ready.1
    ∙ sym (ap (λ o. result o (image fs r w old)) (c.in_ok-found.ensures.value w old.cells c.requires.held.0 c.requires.held.1))) (omega arith))
    c.result_on.ensures.comes
