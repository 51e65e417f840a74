use Rattle.std.proofs.Common.{sym, ap, ◌∙◌}
use Rattle.std.proofs.lemmas.Result.{IfOk-weaker}
use Rattle.std.specs.Option.{option_map_or}
use Rattle.widget_meaning.specs.Plan.{after, and_then}
use Rattle.widget_meaning.specs.Costs.{give}
use Rattle.widget_meaning.specs.Expressions.{operate, write}
use Rattle.js_image.specs.Image.{image, seen}
use Rattle.js_names.specs.Code.{trees_of}
use Rattle.js_flow.specs.Views.{place_of, reference_of}
use Rattle.js_expressions.proofs.assigning.assign_with.Goals as goal

pub returns-in_ok-had-in-Some-clause-plan : goal.returns-in_ok-had-in-Some-clause-plan
returns-in_ok-had-in-Some-clause-plan c =
    let fs = trees_of c.args.codes.now.items in
    let w = c.args.w in
    let s = c.args.store.now in
    let had = seen w s.cells c.args.to.now.has in
    let u = seen w s.cells c.args.value in
    let p = c.args.to.now.place in
    IfOk-weaker c.push_given.result _ _
    (λ k e. rw e (λ r.
    (λ i. and_then (operate c.in-Some.op (seen w s.cells (c.in_ok-had-in-Some.ensures i)) u p.depth (image fs r w s))
    (after (λ v t. write (reference_of w s.cells (c.in_ok-of-in-Some.ensures i)) (place_of w s.cells p) v t (give v))))
    ∙ sym (ap (λ q. and_then q (after (λ v t. write (reference_of w s.cells c.args.to.now.of) (place_of w s.cells p) v t (give v))))
    (c.operator.ensures had u p.depth (image fs r w s) ∙ ap (λ o. option_map_or (λ b. operate b had u p.depth (image fs r w s)) o (give u (image fs r w s))) c.in-Some.is))))
    c.push_given.ensures
