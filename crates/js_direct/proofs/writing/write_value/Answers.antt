use Rattle.std.proofs.Common.{sym, ap, subst, arith}
use Rattle.std.proofs.lemmas.Result.{IfOk-weaker}
use Rattle.js_names.specs.Code.{trees_of}
use Rattle.store_cells.specs.declared.value.Value.{Value}
use Rattle.widget_meaning.specs.OwnState.{State}
use Rattle.widget_meaning.specs.Costs.{give}
use Rattle.widget_meaning.specs.Expressions.{write}
use Rattle.js_image.specs.Image.{image, seen}
use Rattle.js_image.specs.Held.{IsFine}
use Rattle.js_flow.specs.Views.{place_of, reference_of}
use Rattle.js_direct.specs.Comes.{ended_as}
use Rattle.js_direct.proofs.FormFrames.{instead}
use Rattle.js_direct.proofs.writing.write_value.Goals as goal

pub write_on-requires-clause-values : goal.write_on-requires-clause-values
write_on-requires-clause-values c =
    let fs = trees_of c.args.here.now.site.now.codes.now.items in
    let w = c.args.here.now.site.now.widget in
    let s = c.args.store.now in
    (subst (λ (v : Value). IsFine w s.cells v) (sym c.in_ok-value.ensures) c.requires.value, c.requires.value)

pub returns-clause-comes : goal.returns-clause-comes
returns-clause-comes c =
    let fs = trees_of c.args.here.now.site.now.codes.now.items in
    let w = c.args.here.now.site.now.widget in
    let s = c.args.store.now in
    let v = c.args.out.now in
    let p = λ (u : Value) (x : State). write (reference_of w s.cells c.args.of.now) (place_of w s.cells c.args.here.now.at) (seen w s.cells u) x (give (seen w s.cells v)) in
    IfOk-weaker c.write_on.result _ _
    (λ how h. instead fs w s c.write_on.new.store 1 1 (p c.in_ok-value.value) (p v) c.args.run.now c.write_on.new.run how (ended_as how c.write_on.new.out) h
    (λ r. ap (λ (u : Value). p u (image fs r w s)) (sym c.in_ok-value.ensures)) (omega arith))
    c.write_on.ensures.comes
