use Rattle.std.proofs.Common.{sym, ap, subst, ◌∙◌, arith}
use Rattle.std.proofs.lemmas.Result.{IfOk-weaker}
use Rattle.js_names.specs.Code.{trees_of}
use Rattle.store_cells.specs.declared.value.Value.TheVariants as value
use Rattle.widget_meaning.specs.OwnState.{State}
use Rattle.widget_meaning.specs.Costs.{give}
use Rattle.widget_meaning.specs.Expressions.{step_write, write}
use Rattle.js_image.specs.Image.{image, seen}
use Rattle.js_values.specs.declared.outcome.OpOut.{OpOut}
use Rattle.js_values.specs.declared.outcome.OpOut.TheVariants as out
use Rattle.js_values.specs.Operands.{IsPlainOut, meant_out, plain}
use Rattle.js_flow.specs.Views.{place_of, reference_of}
use Rattle.js_direct.specs.Comes.{ended_as}
use Rattle.js_direct.proofs.FormFrames.{instead}
use Rattle.js_direct.proofs.Reaching.{fine_plain, seen_plain}
use Rattle.js_direct.proofs.stepping.step_write.Goals as goal

pub given_number-requires : goal.given_number-requires
given_number-requires c =
    let fs = trees_of c.args.here.now.site.now.codes.now.items in
    let w = c.args.here.now.site.now.widget in
    let s = c.args.store.now in
    subst IsPlainOut c.in-Is.is c.requires.plain

pub write_on-requires-clause-values : goal.write_on-requires-clause-values
write_on-requires-clause-values c =
    let fs = trees_of c.args.here.now.site.now.codes.now.items in
    let w = c.args.here.now.site.now.widget in
    let s = c.args.store.now in
    (fine_plain w s.cells c.in-Is.value (subst IsPlainOut c.in-Is.is c.requires.plain), fine_plain w s.cells c.in_ok-given-in-Is.given c.in_ok-given-in-Is.ensures.plain)

pub returns-in_ok-given-in-Is-clause-comes : goal.returns-in_ok-given-in-Is-clause-comes
returns-in_ok-given-in-Is-clause-comes c =
    let fs = trees_of c.args.here.now.site.now.codes.now.items in
    let w = c.args.here.now.site.now.widget in
    let s = c.args.store.now in
    let of = reference_of w s.cells c.args.of.now in
    let pl = place_of w s.cells c.args.here.now.at in
    let before = plain (value.Num c.args.numbers.1) in
    let p = λ (o : OpOut) (t : State). step_write (meant_out o) c.args.op before of pl t in
    let v = c.in-Is.value in
    let g = c.in_ok-given-in-Is.given in
    let prim = subst IsPlainOut c.in-Is.is c.requires.plain in
    let both = sym c.in_ok-given-in-Is.ensures.value ∙ sym (seen_plain w s.cells g c.in_ok-given-in-Is.ensures.plain) in
    IfOk-weaker c.write_on.result _ _
    (λ how h. instead fs w s c.write_on.new.store 1 1 (λ t. write of pl (seen w s.cells v) t (give (seen w s.cells g))) (p c.args.numbers.0) c.args.run.now c.write_on.new.run how (ended_as how c.write_on.new.out) h
    (λ r. ap (λ (x : OpOut). p x (image fs r w s)) c.in-Is.is ∙ (λ i. write of pl (sym (seen_plain w s.cells v prim) i) (image fs r w s) (give (both i)))) (omega arith))
    c.write_on.ensures.comes

pub returns-in-Left-clause-comes : goal.returns-in-Left-clause-comes
returns-in-Left-clause-comes c =
    let fs = trees_of c.args.here.now.site.now.codes.now.items in
    let w = c.args.here.now.site.now.widget in
    let s = c.args.store.now in
    let of = reference_of w s.cells c.args.of.now in
    let pl = place_of w s.cells c.args.here.now.at in
    let before = plain (value.Num c.args.numbers.1) in
    let p = λ (o : OpOut) (t : State). step_write (meant_out o) c.args.op before of pl t in
    IfOk-weaker c.stop.result _ _
    (λ how h. instead fs w s s 0 1 (p out.Left) (p c.args.numbers.0) c.args.run.now c.stop.new.run how (ended_as how c.args.out.now) (h fs w s c.args.out.now)
    (λ r. ap (λ (x : OpOut). p x (image fs r w s)) c.in-Left.is) (omega arith))
    c.stop.ensures.comes

pub returns-in-LongText-clause-comes : goal.returns-in-LongText-clause-comes
returns-in-LongText-clause-comes c =
    let fs = trees_of c.args.here.now.site.now.codes.now.items in
    let w = c.args.here.now.site.now.widget in
    let s = c.args.store.now in
    let of = reference_of w s.cells c.args.of.now in
    let pl = place_of w s.cells c.args.here.now.at in
    let before = plain (value.Num c.args.numbers.1) in
    let p = λ (o : OpOut) (t : State). step_write (meant_out o) c.args.op before of pl t in
    IfOk-weaker c.stop-in-LongText.result _ _
    (λ how h. instead fs w s s 0 1 (p out.LongText) (p c.args.numbers.0) c.args.run.now c.stop-in-LongText.new.run how (ended_as how c.args.out.now) (h fs w s c.args.out.now)
    (λ r. ap (λ (x : OpOut). p x (image fs r w s)) c.in-LongText.is) (omega arith))
    c.stop-in-LongText.ensures.comes
