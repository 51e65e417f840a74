use Rattle.std.proofs.Common.{sym, ap, ◌∙◌, arith}
use Rattle.std.proofs.lemmas.Result.{IfOk-weaker}
use Rattle.js_names.specs.Code.{trees_of}
use Rattle.widget_meaning.specs.Values as meaning
use Rattle.widget_meaning.specs.OwnState.{State}
use Rattle.widget_meaning.specs.Plan.{and_then}
use Rattle.widget_meaning.specs.Calls.{to_primitive}
use Rattle.widget_meaning.specs.Expressions.{step_converted, step_number}
use Rattle.js_image.specs.Image.{image, seen}
use Rattle.js_flow.specs.Views.{place_of, reference_of}
use Rattle.js_expressions.proofs.Values.{stays_primitive}
use Rattle.js_direct.specs.Comes.{ended_as}
use Rattle.js_direct.proofs.FormFrames.{instead}
use Rattle.js_direct.proofs.stepping.step_has.Goals as goal

pub convert_step-requires : goal.convert_step-requires
convert_step-requires c =
    let fs = trees_of c.args.here.now.site.now.codes.now.items in
    let w = c.args.here.now.site.now.widget in
    let s = c.args.store.now in
    c.requires.ready.2

pub returns-then-is_object-clause-comes : goal.returns-then-is_object-clause-comes
returns-then-is_object-clause-comes c =
    let fs = trees_of c.args.here.now.site.now.codes.now.items in
    let w = c.args.here.now.site.now.widget in
    let s = c.args.store.now in
    let v = c.args.out.now in
    let pl = place_of w s.cells c.args.here.now.at in
    let of = reference_of w s.cells c.args.of.now in
    let d = c.args.here.now.at.depth in
    let k = step_converted c.args.op of pl in
    let p = λ (t : State). and_then (to_primitive (seen w s.cells v) d t) k in
    IfOk-weaker c.convert_step.result _ _ (λ how h. h fs w s c.requires.value c.requires.held.0 c.requires.held.1) c.convert_step.ensures

pub step_number-requires-clause-primitive : goal.step_number-requires-clause-primitive
step_number-requires-clause-primitive c =
    let fs = trees_of c.args.here.now.site.now.codes.now.items in
    let w = c.args.here.now.site.now.widget in
    let s = c.args.store.now in
    c.is_object.ensures.primitive c.if-is_object.false

pub returns-clause-comes : goal.returns-clause-comes
returns-clause-comes c =
    let fs = trees_of c.args.here.now.site.now.codes.now.items in
    let w = c.args.here.now.site.now.widget in
    let s = c.args.store.now in
    let v = c.args.out.now in
    let pl = place_of w s.cells c.args.here.now.at in
    let of = reference_of w s.cells c.args.of.now in
    let d = c.args.here.now.at.depth in
    let k = step_converted c.args.op of pl in
    let p = λ (t : State). and_then (to_primitive (seen w s.cells v) d t) k in
    let no = sym (c.is_object.ensures.object w s.cells) ∙ c.if-is_object.false in
    IfOk-weaker c.step_number.result _ _
    (λ how h. instead fs w s c.step_number.new.store 1 4 (step_number (meaning.to_number (seen w s.cells v)) c.args.op of pl) p c.args.run.now c.step_number.new.run how (ended_as how c.step_number.new.out) h
    (λ r. ap (λ q. and_then q k) (stays_primitive (seen w s.cells v) d (image fs r w s) no)) (omega arith))
    c.step_number.ensures.comes
