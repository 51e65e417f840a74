use Rattle.std.proofs.Common.{sym, ap, subst, ◌∙◌}
use Rattle.std.proofs.lemmas.Result.{IfOk-weaker}
use Rattle.js_names.specs.Code.{trees_of}
use Rattle.widget_meaning.specs.Expressions as expressions
use Rattle.js_image.specs.Image.{image}
use Rattle.js_flow.specs.declared.job.Reference.{Reference}
use Rattle.js_flow.specs.Fine.{FineReference}
use Rattle.js_flow.specs.Views.{place_of, reference_of}
use Rattle.js_direct.proofs.targets.referred.Goals as goal

pub returns-in-Variable-clause-found : goal.returns-in-Variable-clause-found
returns-in-Variable-clause-found c =
    let fs = trees_of c.args.here.now.site.now.codes.now.items in
    let w = c.args.here.now.site.now.widget in
    let s = c.args.store.now in
    IfOk-weaker c.variable.result _ _
    (λ v h r. h fs r w c.args.here.now.at.depth c.requires.confined c.requires.held.1.1
    ∙ sym (ap (λ q. expressions.referred (reference_of w s.cells q) (place_of w s.cells c.args.here.now.at) (image fs r w s)) c.in-Variable.is))
    c.variable.ensures.found

pub returns-in-Element-clause-found : goal.returns-in-Element-clause-found
returns-in-Element-clause-found c =
    let fs = trees_of c.args.here.now.site.now.codes.now.items in
    let w = c.args.here.now.site.now.widget in
    let s = c.args.store.now in
    let to = subst (λ (q : Reference). FineReference w s.cells q) c.in-Element.is c.requires.held.0 in
    IfOk-weaker c.indexed_value.result _ _
    (λ v h r. h fs r w c.requires.confined to.0
    ∙ sym (ap (λ q. expressions.referred (reference_of w s.cells q) (place_of w s.cells c.args.here.now.at) (image fs r w s)) c.in-Element.is))
    c.indexed_value.ensures.found

pub returns-in-Element-clause-fine : goal.returns-in-Element-clause-fine
returns-in-Element-clause-fine c =
    let fs = trees_of c.args.here.now.site.now.codes.now.items in
    let w = c.args.here.now.site.now.widget in
    let s = c.args.store.now in
    let to = subst (λ (q : Reference). FineReference w s.cells q) c.in-Element.is c.requires.held.0 in
    IfOk-weaker c.indexed_value.result _ _ (λ v h. h fs w c.requires.confined to.0) c.indexed_value.ensures.fine

pub indexed_value-requires-clause-within : goal.indexed_value-requires-clause-within
indexed_value-requires-clause-within c =
    let w = c.args.here.now.site.now.widget in
    let s = c.args.store.now in
    (subst (λ (q : Reference). FineReference w s.cells q) c.in-Element.is c.requires.held.0).0.0

pub indexed_value-requires-clause-index : goal.indexed_value-requires-clause-index
indexed_value-requires-clause-index c =
    let w = c.args.here.now.site.now.widget in
    let s = c.args.store.now in
    (subst (λ (q : Reference). FineReference w s.cells q) c.in-Element.is c.requires.held.0).1
