use Rattle.std.proofs.Common.{◌∙◌, ◌<◌, Some, None, [], length, subst, sym, ap}
use Rattle.std.proofs.lemmas.Result.{IfOk-weaker}
use Rattle.js_tree.specs.Forest.{IsExpr, expr_at}
use Rattle.widget_meaning.specs.Expressions.{arguments_then}
use Rattle.widget_meaning.specs.Plan.{Do, Eval}
use Rattle.js_flow.specs.Calls.{argument_taken}
use Rattle.js_image.specs.Image.{all_seen, image}
use Rattle.js_names.specs.Code.{trees_of}
use Rattle.js_flow.specs.declared.frame.Argument.{Argument}
use Rattle.js_flow.specs.Fine.{FineArgument, IsExprAt}
use Rattle.js_flow.specs.Parts.{HasExpr, arguments_of, forest_at}
use Rattle.js_flow.specs.Views.{place_of, reference_of}
use Rattle.js_calls.proofs.Argued.{next_argument, no_argument}
use Rattle.js_calls.proofs.arguments.arguments.Goals as goal

pub argument_left-requires-clause-code : goal.argument_left-requires-clause-code
argument_left-requires-clause-code c = subst (λ (q : Argument). q.place.code < length (trees_of c.args.codes.now.items)) (sym c.deref.ensures) c.requires.held.2.0.0

pub argument_left-requires-clause-call : goal.argument_left-requires-clause-call
argument_left-requires-clause-call c = subst (λ (q : Argument). IsExpr (forest_at (trees_of c.args.codes.now.items) q.place.code) q.call) (sym c.deref.ensures) c.requires.held.2.1

pub next_of-requires : goal.next_of-requires
next_of-requires c =
    let fs = trees_of c.args.codes.now.items in
    (subst (λ (q : Argument). HasExpr (forest_at fs q.place.code) (arguments_of (expr_at (forest_at fs q.place.code) q.call)) q.next (Some c.in-Some.e)) c.deref.ensures c.in-Some.ensures).1

pub returns-in-Some-clause-plan : goal.returns-in-Some-clause-plan
returns-in-Some-clause-plan c =
    let fs = trees_of c.args.codes.now.items in
    let w = c.args.w in
    let s = c.args.store.now in
    let a = c.args.a.value in
    let has = subst (λ (q : Argument). HasExpr (forest_at fs q.place.code) (arguments_of (expr_at (forest_at fs q.place.code) q.call)) q.next (Some c.in-Some.e)) c.deref.ensures c.in-Some.ensures in
    let place = ap (λ (q : Argument). q.place) c.next_of.ensures in
    IfOk-weaker c.pushed.result _ _
    (λ k h r. h fs w s.cells (image fs r w s)
    ∙ (λ i. Do (Eval (expr_at (forest_at fs (place i).code) c.in-Some.e) (place_of w s.cells (place i))) (image fs r w s) (argument_taken fs w s.cells c.next_of.result.value))
    ∙ next_argument fs w s.cells a (image fs r w s) c.next_of.result.value c.in-Some.e c.next_of.ensures has.2)
    c.pushed.ensures.plan

pub returns-in-Some-clause-fine : goal.returns-in-Some-clause-fine
returns-in-Some-clause-fine c =
    let fs = trees_of c.args.codes.now.items in
    let w = c.args.w in
    let cells = c.args.store.now.cells in
    let has = subst (λ (q : Argument). HasExpr (forest_at fs q.place.code) (arguments_of (expr_at (forest_at fs q.place.code) q.call)) q.next (Some c.in-Some.e)) c.deref.ensures c.in-Some.ensures in
    IfOk-weaker c.pushed.result _ _
    (λ k h. h fs w cells (subst (FineArgument fs w cells) (sym c.next_of.ensures) c.requires.held)
    (subst (λ (q : Argument). IsExprAt fs w cells c.in-Some.e q.place) (sym c.next_of.ensures) (c.requires.held.2.0, has.0)))
    c.pushed.ensures.fine

pub called-requires-clause-held : goal.called-requires-clause-held
called-requires-clause-held c = subst (FineArgument (trees_of c.args.codes.now.items) c.args.w c.args.store.now.cells) (sym c.into_inner.ensures) c.requires.held

pub returns-in-None-clause-plan : goal.returns-in-None-clause-plan
returns-in-None-clause-plan c =
    let fs = trees_of c.args.codes.now.items in
    let w = c.args.w in
    let s = c.args.store.now in
    let a = c.args.a.value in
    let over = subst (λ (q : Argument). HasExpr (forest_at fs q.place.code) (arguments_of (expr_at (forest_at fs q.place.code) q.call)) q.next None) c.deref.ensures c.in-None.ensures in
    IfOk-weaker c.called.result _ _
    (λ n h r. h r ∙ ap (λ (q : Argument). arguments_then (reference_of w s.cells q.of) (all_seen w s.cells q.args.items) [] (place_of w s.cells q.place) (image fs r w s)) c.into_inner.ensures
    ∙ no_argument fs w s.cells a (image fs r w s) over)
    c.called.ensures.plan
