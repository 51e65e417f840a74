use Rattle.std.proofs.Common.{ap, ◌∙◌}
use Rattle.std.proofs.lemmas.Result.{IfOk-weaker}
use Rattle.js_tree.specs.Forest.{expr_at}
use Rattle.widget_meaning.specs.Expressions.{arguments_then}
use Rattle.js_image.specs.Image.{all_seen, image}
use Rattle.js_names.specs.Code.{trees_of}
use Rattle.js_flow.specs.declared.frame.Argument.{Argument}
use Rattle.js_flow.specs.Parts.{arguments_of, forest_at}
use Rattle.js_flow.specs.Views.{place_of, reference_of}
use Rattle.js_calls.specs.Called.{arguments_left}
use Rattle.js_calls.proofs.arguments.arguments_of.Goals as goal

pub returns-clause-plan : goal.returns-clause-plan
returns-clause-plan c =
    let fs = trees_of c.args.codes.now.items in
    let w = c.args.w in
    let s = c.args.store.now in
    let p = c.args.call.1 in
    let all = arguments_of (expr_at (forest_at fs p.code) c.args.call.0) in
    IfOk-weaker c.arguments.result _ _
    (λ k h r. h r ∙ ap (λ (q : Argument). arguments_left fs w s.cells q (image fs r w s)) c.in_ok-new.ensures.ok
    ∙ ap (λ vs. arguments_then (reference_of w s.cells c.args.of) (all_seen w s.cells vs) all (place_of w s.cells p) (image fs r w s)) c.new.ensures.items)
    c.arguments.ensures.plan
