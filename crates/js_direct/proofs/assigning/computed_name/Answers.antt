use Rattle.std.proofs.Common.{ap, ◌∙◌, arith}
use Rattle.std.proofs.lemmas.Result.{IfOk-weaker}
use Rattle.js_names.specs.Code.{trees_of}
use Rattle.std.specs.Option.{option_map_or}
use Rattle.widget_meaning.specs.Values as meaning
use Rattle.widget_meaning.specs.Plan.{after, and_then}
use Rattle.widget_meaning.specs.Costs.{give}
use Rattle.widget_meaning.specs.Expressions.{assign_with, operate, write}
use Rattle.js_image.specs.Image.{image, seen}
use Rattle.js_flow.specs.declared.job.Reference.TheVariants as reference
use Rattle.js_flow.specs.Views.{place_of, reference_of}
use Rattle.js_direct.specs.Comes.{ended_as}
use Rattle.js_direct.proofs.FormFrames.{instead}
use Rattle.js_direct.proofs.assigning.computed_name.Goals as goal

pub returns-in-Some-clause-comes : goal.returns-in-Some-clause-comes
returns-in-Some-clause-comes c =
    let fs = trees_of c.args.here.now.site.now.codes.now.items in
    let w = c.args.here.now.site.now.widget in
    let s = c.args.store.now in
    let had = seen w s.cells c.args.has.now in
    let u = seen w s.cells c.args.out.now in
    let p = place_of w s.cells c.args.here.now.at in
    let k = after (λ v t. write (reference_of w s.cells (reference.Variable c.args.name.now)) p v t (give v)) in
    IfOk-weaker c.computed_by.result _ _
    (λ how h. instead fs w s c.computed_by.new.store 12 12 (λ t. and_then (operate c.in-Some.by had u c.args.here.now.at.depth t) k) (assign_with c.args.op (reference_of w s.cells (reference.Variable c.args.name.now)) had p (meaning.Is u)) c.args.run.now c.computed_by.new.run how (ended_as how c.computed_by.new.out) h
    (λ r. ap (λ q. and_then q k) (c.operator.ensures had u c.args.here.now.at.depth (image fs r w s) ∙ ap (λ o. option_map_or (λ b. operate b had u c.args.here.now.at.depth (image fs r w s)) o (give u (image fs r w s))) c.in-Some.is)) (omega arith))
    c.computed_by.ensures.comes

pub returns-in-None-clause-comes : goal.returns-in-None-clause-comes
returns-in-None-clause-comes c =
    let fs = trees_of c.args.here.now.site.now.codes.now.items in
    let w = c.args.here.now.site.now.widget in
    let s = c.args.store.now in
    let had = seen w s.cells c.args.has.now in
    let u = seen w s.cells c.args.out.now in
    let p = place_of w s.cells c.args.here.now.at in
    let k = after (λ v t. write (reference_of w s.cells (reference.Variable c.args.name.now)) p v t (give v)) in
    IfOk-weaker c.write_name.result _ _
    (λ how h. instead fs w s c.write_name.new.store 1 12 (k (meaning.Is u)) (assign_with c.args.op (reference_of w s.cells (reference.Variable c.args.name.now)) had p (meaning.Is u)) c.args.run.now c.args.run.now how (ended_as how c.args.out.now) h
    (λ r. ap (λ q. and_then q k) (c.operator.ensures had u c.args.here.now.at.depth (image fs r w s) ∙ ap (λ o. option_map_or (λ b. operate b had u c.args.here.now.at.depth (image fs r w s)) o (give u (image fs r w s))) c.in-None.is)) (omega arith))
    c.write_name.ensures.comes
