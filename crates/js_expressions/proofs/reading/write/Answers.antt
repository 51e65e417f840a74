use Rattle.std.proofs.Common.{sym, ap, subst, ◌∙◌}
use Rattle.std.proofs.lemmas.Result.{IfOk-weaker}
use Rattle.widget_meaning.specs.Plan.{Ret}
use Rattle.widget_meaning.specs.Values as meaning
use Rattle.widget_meaning.specs.Costs.{give}
use Rattle.widget_meaning.specs.Expressions as expressions
use Rattle.js_image.specs.Image.{image, seen}
use Rattle.js_image.proofs.Grown.{seen_stays}
use Rattle.js_names.specs.Code.{trees_of}
use Rattle.js_flow.specs.declared.job.Reference.{Reference}
use Rattle.js_flow.specs.Fine.{FineReference}
use Rattle.js_flow.specs.Views.{place_of, reference_of}
use Rattle.js_expressions.proofs.reading.write.Goals as goal

pub returns-in-Variable-clause-plan : goal.returns-in-Variable-clause-plan
returns-in-Variable-clause-plan c =
    let fs = trees_of c.args.codes.now.items in
    let w = c.args.w in
    let old = c.args.store.now in
    let new = c.assign.new.store in
    let p = seen_stays w old.cells new.cells (c.assign.ensures.kept fs c.requires.confined).grows c.args.values.1 c.requires.values.1 in
    rw c.give.ensures (λ r. (λ i. Ret (meaning.Is (p i)) (c.assign.ensures.plan fs r c.args.place.depth c.requires.confined i))
    ∙ sym (ap (λ t. expressions.write (reference_of w old.cells t) (place_of w old.cells c.args.place) (seen w old.cells c.args.values.0) (image fs r w old) (give (seen w old.cells c.args.values.1))) c.in-Variable.is))

pub write_element-requires-clause-to : goal.write_element-requires-clause-to
write_element-requires-clause-to c =
    let fs = trees_of c.args.codes.now.items in
    let w = c.args.w in
    let old = c.args.store.now in
    (subst (λ (q : Reference). FineReference w old.cells q) c.in-Element.is c.requires.to.0).0

pub returns-in-Element-clause-plan : goal.returns-in-Element-clause-plan
returns-in-Element-clause-plan c =
    let fs = trees_of c.args.codes.now.items in
    let w = c.args.w in
    let old = c.args.store.now in
    IfOk-weaker c.write_element.result _ _
    (λ n h r. h r ∙ sym (ap (λ t. expressions.write (reference_of w old.cells t) (place_of w old.cells c.args.place) (seen w old.cells c.args.values.0) (image fs r w old) (give (seen w old.cells c.args.values.1))) c.in-Element.is))
    c.write_element.ensures.plan
