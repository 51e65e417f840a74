use Rattle.std.proofs.Common.{ℕ, List, sym, ap, subst, ◌∙◌, arith}
use Rattle.std.proofs.lemmas.Result.{IfOk-weaker}
use Rattle.js_names.specs.Code.{trees_of}
use Rattle.store_cells.specs.declared.value.Value.{Value}
use Rattle.widget_meaning.specs.Values as meaning
use Rattle.widget_meaning.specs.Plan.{and_then}
use Rattle.widget_meaning.specs.Calls.{to_primitive}
use Rattle.widget_meaning.specs.Expressions.{step_converted, step_target}
use Rattle.js_image.specs.Image.{image, seen}
use Rattle.js_image.specs.Held.{IsFine}
use Rattle.js_flow.specs.Views.{place_of}
use Rattle.js_direct.specs.Comes.{ended_as}
use Rattle.js_direct.proofs.FormFrames.{instead}
use Rattle.js_direct.proofs.stepping.step_other.Goals as goal

pub step_has-requires-clause-value : goal.step_has-requires-clause-value
step_has-requires-clause-value c =
    let fs = trees_of c.args.here.now.site.now.codes.now.items in
    let w = c.args.here.now.site.now.widget in
    let s = c.args.store.now in
    subst (λ (v : Value). IsFine w s.cells v) (sym c.set_value.ensures) (c.in_ok-has.ensures.fine fs w c.requires.ready.1 c.requires.held.1)

pub returns-clause-comes : goal.returns-clause-comes
returns-clause-comes c =
    let fs = trees_of c.args.here.now.site.now.codes.now.items in
    let w = c.args.here.now.site.now.widget in
    let s = c.args.store.now in
    let v = c.set_value.new.out in
    let pl = place_of w s.cells c.args.here.now.at in
    let of = meaning.Variable c.args.name.now in
    let d = c.args.here.now.at.depth in
    let k = step_converted c.args.op of pl in
    let p = step_target c.args.op pl (meaning.Refers of) in
    IfOk-weaker c.step_has.result _ _
    (λ how h. instead fs w s c.step_has.new.store 4 4 (λ t. and_then (to_primitive (seen w s.cells v) d t) (step_converted c.args.op (meaning.Variable c.in_ok-share.field-0) pl)) p c.args.run.now c.step_has.new.run how (ended_as how c.step_has.new.out) h
    (λ r. ap (λ u. and_then (to_primitive u d (image fs r w s)) k) (sym (c.in_ok-has.ensures.found fs r w d c.requires.ready.1 c.requires.held.1) ∙ ap (seen w s.cells) (sym c.set_value.ensures))
    ∙ ap (λ (x : List ℕ). and_then (to_primitive (seen w s.cells v) d (image fs r w s)) (step_converted c.args.op (meaning.Variable x) pl)) (sym c.in_ok-share.ensures)) (omega arith))
    c.step_has.ensures.comes
