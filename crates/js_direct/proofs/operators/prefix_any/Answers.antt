use Rattle.std.proofs.Common.{sym, ap, ◌∙◌, arith}
use Rattle.std.proofs.lemmas.Result.{IfOk-weaker}
use Rattle.widget_meaning.specs.Expressions.{result, unary_on}
use Rattle.js_image.specs.Image.{image, seen}
use Rattle.js_values.specs.Operands.{meant_out}
use Rattle.js_names.specs.Code.{trees_of}
use Rattle.js_flow.specs.Views.{place_of}
use Rattle.js_direct.proofs.FormFrames.{instead}
use Rattle.js_direct.proofs.Values.{prefixed}
use Rattle.js_direct.proofs.operators.prefix_any.Goals as goal

pub returns-then-is_prefix_ready-clause-comes : goal.returns-then-is_prefix_ready-clause-comes
returns-then-is_prefix_ready-clause-comes c =
    let fs = trees_of c.args.here.now.site.now.codes.now.items in
    let w = c.args.here.now.site.now.widget in
    let old = c.args.store.now in
    let v = c.args.out.now in
    let p = place_of w old.cells c.args.here.now.at in
    let ready = c.is_prefix_ready.ensures c.if-is_prefix_ready.true in
    IfOk-weaker c.result_on.result _ _
    (λ h x. instead fs w old c.result_on.new.store 1 4 (result (meant_out c.in_ok-found.found)) (unary_on c.args.op (seen w old.cells v) p) c.args.run.now c.result_on.new.run h _ x
    (λ r. prefixed c.args.op w old.cells v p (image fs r w old) ready.0 ready.1
    ∙ sym (ap (λ o. result o (image fs r w old)) (c.in_ok-found.ensures.value w old.cells))) (omega arith))
    c.result_on.ensures.comes
