use Rattle.std.proofs.Common.{sym, ap, subst, ◌∙◌, arith}
use Rattle.std.proofs.lemmas.Result.{IfOk-weaker}
use Rattle.js_names.specs.Code.{trees_of}
use Rattle.widget_meaning.specs.Values as meaning
use Rattle.widget_meaning.specs.Plan.{Ret}
use Rattle.widget_meaning.specs.Costs.{give}
use Rattle.widget_meaning.specs.Expressions as expressions
use Rattle.js_image.specs.Image.{image, seen}
use Rattle.js_image.proofs.Grown.{fine_stays, seen_stays}
use Rattle.js_flow.specs.declared.job.Reference.{Reference}
use Rattle.js_flow.specs.Fine.{FineReference}
use Rattle.js_flow.specs.Views.{place_of, reference_of}
use Rattle.js_direct.specs.Comes.{ended_as}
use Rattle.js_direct.proofs.FormFrames.{gives_value, instead}
use Rattle.js_direct.proofs.writing.write_on.Goals as goal

pub returns-in-Variable-clause-comes : goal.returns-in-Variable-clause-comes
returns-in-Variable-clause-comes c =
    let fs = trees_of c.args.here.now.site.now.codes.now.items in
    let w = c.args.here.now.site.now.widget in
    let s = c.args.store.now in
    let t = c.assign.new.store in
    let v = c.args.out.now in
    let kept = c.assign.ensures.kept fs c.requires.ready.1 in
    let same = seen_stays w s.cells t.cells kept.grows v c.requires.values.1 in
    gives_value fs w s t 1 (λ x. expressions.write (reference_of w s.cells c.args.of.now) (place_of w s.cells c.args.here.now.at) (seen w s.cells c.args.value) x (give (seen w s.cells v))) c.args.run.now v c.requires.ready.2
    (λ r. ap (λ q. expressions.write (reference_of w s.cells q) (place_of w s.cells c.args.here.now.at) (seen w s.cells c.args.value) (image fs r w s) (give (seen w s.cells v))) c.in-Variable.is
    ∙ sym (λ i. Ret (meaning.Is (same i)) (c.assign.ensures.plan fs r c.args.here.now.at.depth c.requires.ready.1 i)))
    (fine_stays w s.cells t.cells kept.grows v c.requires.values.1) (omega arith)

pub returns-in-Variable-clause-kept : goal.returns-in-Variable-clause-kept
returns-in-Variable-clause-kept c =
    let fs = trees_of c.args.here.now.site.now.codes.now.items in
    let w = c.args.here.now.site.now.widget in
    let s = c.args.store.now in
    c.assign.ensures.kept fs c.requires.ready.1

pub returns-in-Property-clause-comes : goal.returns-in-Property-clause-comes
returns-in-Property-clause-comes c =
    let fs = trees_of c.args.here.now.site.now.codes.now.items in
    let w = c.args.here.now.site.now.widget in
    let s = c.args.store.now in
    IfOk-weaker c.put_on.result _ _
    (λ how h. instead fs w s c.put_on.new.store 1 1 _ (λ x. expressions.write (reference_of w s.cells c.args.of.now) (place_of w s.cells c.args.here.now.at) (seen w s.cells c.args.value) x (give (seen w s.cells c.args.out.now))) c.args.run.now c.put_on.new.run how (ended_as how c.put_on.new.out) h
    (λ r. ap (λ q. expressions.write (reference_of w s.cells q) (place_of w s.cells c.args.here.now.at) (seen w s.cells c.args.value) (image fs r w s) (give (seen w s.cells c.args.out.now))) c.in-Property.is) (omega arith))
    c.put_on.ensures.comes

pub returns-in-Element-clause-comes : goal.returns-in-Element-clause-comes
returns-in-Element-clause-comes c =
    let fs = trees_of c.args.here.now.site.now.codes.now.items in
    let w = c.args.here.now.site.now.widget in
    let s = c.args.store.now in
    IfOk-weaker c.put_at_on.result _ _
    (λ how h. instead fs w s c.put_at_on.new.store 1 1 _ (λ x. expressions.write (reference_of w s.cells c.args.of.now) (place_of w s.cells c.args.here.now.at) (seen w s.cells c.args.value) x (give (seen w s.cells c.args.out.now))) c.args.run.now c.put_at_on.new.run how (ended_as how c.put_at_on.new.out) h
    (λ r. ap (λ q. expressions.write (reference_of w s.cells q) (place_of w s.cells c.args.here.now.at) (seen w s.cells c.args.value) (image fs r w s) (give (seen w s.cells c.args.out.now))) c.in-Element.is) (omega arith))
    c.put_at_on.ensures.comes

pub put_at_on-requires-clause-to : goal.put_at_on-requires-clause-to
put_at_on-requires-clause-to c =
    let w = c.args.here.now.site.now.widget in
    let s = c.args.store.now in
    subst (λ (q : Reference). FineReference w s.cells q) c.in-Element.is c.requires.to.0

pub returns-in-Found-clause-comes : goal.returns-in-Found-clause-comes
returns-in-Found-clause-comes c =
    let fs = trees_of c.args.here.now.site.now.codes.now.items in
    let w = c.args.here.now.site.now.widget in
    let s = c.args.store.now in
    let v = c.args.out.now in
    gives_value fs w s s 1 (λ x. expressions.write (reference_of w s.cells c.args.of.now) (place_of w s.cells c.args.here.now.at) (seen w s.cells c.args.value) x (give (seen w s.cells v))) c.args.run.now v c.requires.ready.2
    (λ r. ap (λ q. expressions.write (reference_of w s.cells q) (place_of w s.cells c.args.here.now.at) (seen w s.cells c.args.value) (image fs r w s) (give (seen w s.cells v))) c.in-Found.is)
    c.requires.values.1 (omega arith)
