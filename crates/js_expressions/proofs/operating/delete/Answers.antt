use Rattle.std.proofs.Common.{sym, ap, subst, ◌∙◌}
use Rattle.std.proofs.lemmas.Result.{IfOk-weaker}
use Rattle.store_cells.specs.declared.value.Value.TheVariants as value
use Rattle.widget_meaning.specs.Values as meaning
use Rattle.widget_meaning.specs.Expressions as expressions
use Rattle.js_image.specs.Image.{image, seen}
use Rattle.js_names.specs.Code.{trees_of}
use Rattle.js_flow.specs.declared.job.Reference.{Reference}
use Rattle.js_flow.specs.Fine.{FineReference}
use Rattle.js_flow.specs.Views.{reference_of}
use Rattle.js_expressions.proofs.operating.delete.Goals as goal

pub returns-in-Property-clause-plan : goal.returns-in-Property-clause-plan
returns-in-Property-clause-plan c =
    let fs = trees_of c.args.codes.now.items in
    let w = c.args.w in
    let old = c.args.store.now in
    IfOk-weaker c.delete_named.result _ _
    (λ n h r. h r ∙ sym (ap (λ q. expressions.delete_at (reference_of w old.cells q) (image fs r w old)) c.in-Property.is))
    c.delete_named.ensures.plan

pub delete_named-requires-in-Element-clause-held : goal.delete_named-requires-in-Element-clause-held
delete_named-requires-in-Element-clause-held c =
    let w = c.args.w in
    let old = c.args.store.now in
    (subst (λ (q : Reference). FineReference w old.cells q) c.in-Element.is c.requires.held).0

pub returns-in-Element-clause-plan : goal.returns-in-Element-clause-plan
returns-in-Element-clause-plan c =
    let fs = trees_of c.args.codes.now.items in
    let w = c.args.w in
    let old = c.args.store.now in
    IfOk-weaker c.delete_named-in-Element.result _ _
    (λ n h r. h r ∙ ((λ i. expressions.delete_at (meaning.Property (seen w old.cells (value.Ref c.in-Element.cell)) (c.in_ok-name-in-Element.ensures i)) (image fs r w old))
    ∙ sym (ap (λ q. expressions.delete_at (reference_of w old.cells q) (image fs r w old)) c.in-Element.is)))
    c.delete_named-in-Element.ensures.plan
