use Rattle.std.proofs.Common.{◌≡◌, sym, ap, ◌∙◌, arith, rules}
use Rattle.std.proofs.lemmas.Result.{IfOk-weaker}
use Rattle.js_names.specs.Code.{trees_of}
use mir.Val.{of_z, to_z}
use mir.Syntax.{w64}
use Rattle.widget_meaning.specs.Values as meaning
use Rattle.widget_meaning.specs.OwnState.{State}
use Rattle.code_units.specs.declared.whole.WholeRead.{WholeRead}
use Rattle.code_units.specs.declared.whole.WholeRead.TheVariants as whole
use Rattle.widget_meaning.specs.Expressions.{step_number, step_write, stepped}
use Rattle.js_image.specs.Image.{image, seen}
use Rattle.js_values.specs.Operands.{meant_out}
use Rattle.js_flow.specs.Views.{place_of, reference_of}
use Rattle.js_direct.specs.Comes.{ended_as}
use Rattle.js_direct.proofs.FormFrames.{instead}
use Rattle.js_direct.proofs.Reaching.{seen_plain}
use Rattle.js_direct.proofs.stepping.step_number.Goals as goal

pub step_write-requires-clause-plain : goal.step_write-requires-clause-plain
step_write-requires-clause-plain c =
    let fs = trees_of c.args.here.now.site.now.codes.now.items in
    let w = c.args.here.now.site.now.widget in
    let s = c.args.store.now in
    c.stepped-sum.ensures.plain

pub returns-in-Whole-clause-comes : goal.returns-in-Whole-clause-comes
returns-in-Whole-clause-comes c =
    let fs = trees_of c.args.here.now.site.now.codes.now.items in
    let w = c.args.here.now.site.now.widget in
    let s = c.args.store.now in
    let v = c.args.out.now in
    let of = reference_of w s.cells c.args.of.now in
    let pl = place_of w s.cells c.args.here.now.at in
    let read = ap meaning.to_number (seen_plain w s.cells v c.requires.primitive) ∙ sym c.number_of.ensures in
    let p = λ (x : WholeRead) (t : State). step_number x c.args.op of pl t in
    let z = c.in-Whole.z in
    let near = to_z w64 (of_z w64 z) in
    let same : near ≡ z = search rules in
    IfOk-weaker c.step_write.result _ _
    (λ how h. instead fs w s c.step_write.new.store 1 1 (step_write (meant_out c.stepped-sum.result) c.args.op (meaning.Num near) of pl) (p (meaning.to_number (seen w s.cells v))) c.args.run.now c.step_write.new.run how (ended_as how c.step_write.new.out) h
    (λ r. ap (λ (x : WholeRead). p x (image fs r w s)) (read ∙ c.in-Whole.is) ∙ (ap (λ y. step_write (stepped c.args.op y) c.args.op (meaning.Num y) of pl (image fs r w s)) (sym same) ∙ ap (λ q. step_write q c.args.op (meaning.Num near) of pl (image fs r w s)) (sym c.stepped-sum.ensures.value))) (omega arith))
    c.step_write.ensures.comes

pub returns-in-NotNumber-clause-comes : goal.returns-in-NotNumber-clause-comes
returns-in-NotNumber-clause-comes c =
    let fs = trees_of c.args.here.now.site.now.codes.now.items in
    let w = c.args.here.now.site.now.widget in
    let s = c.args.store.now in
    let v = c.args.out.now in
    let of = reference_of w s.cells c.args.of.now in
    let pl = place_of w s.cells c.args.here.now.at in
    let read = ap meaning.to_number (seen_plain w s.cells v c.requires.primitive) ∙ sym c.number_of.ensures in
    let p = λ (x : WholeRead) (t : State). step_number x c.args.op of pl t in
    IfOk-weaker c.step_write-in-NotNumber.result _ _
    (λ how h. instead fs w s c.step_write-in-NotNumber.new.store 1 1 (p whole.NotNumber) (p (meaning.to_number (seen w s.cells v))) c.args.run.now c.step_write-in-NotNumber.new.run how (ended_as how c.step_write-in-NotNumber.new.out) h
    (λ r. ap (λ (x : WholeRead). p x (image fs r w s)) (read ∙ c.in-NotNumber.is)) (omega arith))
    c.step_write-in-NotNumber.ensures.comes

pub returns-in-Left-clause-comes : goal.returns-in-Left-clause-comes
returns-in-Left-clause-comes c =
    let fs = trees_of c.args.here.now.site.now.codes.now.items in
    let w = c.args.here.now.site.now.widget in
    let s = c.args.store.now in
    let v = c.args.out.now in
    let of = reference_of w s.cells c.args.of.now in
    let pl = place_of w s.cells c.args.here.now.at in
    let read = ap meaning.to_number (seen_plain w s.cells v c.requires.primitive) ∙ sym c.number_of.ensures in
    let p = λ (x : WholeRead) (t : State). step_number x c.args.op of pl t in
    IfOk-weaker c.stop.result _ _
    (λ how h. instead fs w s s 0 1 (p whole.Left) (p (meaning.to_number (seen w s.cells v))) c.args.run.now c.stop.new.run how (ended_as how v) (h fs w s v)
    (λ r. ap (λ (x : WholeRead). p x (image fs r w s)) (read ∙ c.in-Left.is)) (omega arith))
    c.stop.ensures.comes
