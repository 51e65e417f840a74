use Rattle.std.proofs.Common.{sym, ap, subst, ◌∙◌, arith}
use Rattle.std.proofs.lemmas.Result.{IfOk-weaker}
use Rattle.js_names.specs.Code.{trees_of}
use Rattle.store_cells.specs.declared.value.Value.{Value}
use Rattle.widget_meaning.specs.Values as meaning
use Rattle.widget_meaning.specs.Plan.{and_then}
use Rattle.widget_meaning.specs.Calls.{to_primitive}
use Rattle.widget_meaning.specs.Expressions.{step_converted, step_target}
use Rattle.js_image.specs.Image.{image, seen}
use Rattle.js_image.specs.Held.{IsFine}
use Rattle.js_flow.specs.Views.{place_of, reference_of}
use Rattle.js_direct.specs.Comes.{ended_as}
use Rattle.js_direct.proofs.FormFrames.{instead}
use Rattle.js_direct.proofs.stepping.step_target.Goals as goal

pub step_has-requires-clause-value : goal.step_has-requires-clause-value
step_has-requires-clause-value c =
    let fs = trees_of c.args.here.now.site.now.codes.now.items in
    let w = c.args.here.now.site.now.widget in
    let s = c.args.store.now in
    subst (λ (v : Value). IsFine w s.cells v) (sym c.set_value.ensures) c.in_ok-has.ensures.fine

pub returns-clause-comes : goal.returns-clause-comes
returns-clause-comes c =
    let fs = trees_of c.args.here.now.site.now.codes.now.items in
    let w = c.args.here.now.site.now.widget in
    let s = c.args.store.now in
    let has = c.set_value.new.out in
    let pl = place_of w s.cells c.args.here.now.at in
    let of = reference_of w s.cells c.args.of.now in
    let d = c.args.here.now.at.depth in
    let k = step_converted c.args.op of pl in
    IfOk-weaker c.step_has.result _ _
    (λ how h. instead fs w s c.step_has.new.store 4 4 (λ t. and_then (to_primitive (seen w s.cells has) d t) k) (step_target c.args.op pl (meaning.Refers of)) c.args.run.now c.step_has.new.run how (ended_as how c.step_has.new.out) h
    (λ r. ap (λ u. and_then (to_primitive u d (image fs r w s)) k) (sym (c.in_ok-has.ensures.found r) ∙ ap (seen w s.cells) (sym c.set_value.ensures))) (omega arith))
    c.step_has.ensures.comes
