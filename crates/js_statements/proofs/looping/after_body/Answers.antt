use Rattle.std.proofs.Common.{sym, ap, ◌∙◌}
use Rattle.std.proofs.lemmas.Result.{IfOk-weaker}
use Rattle.js_tree.specs.Forest.{stmt_at}
use Rattle.js_names.specs.Code.{trees_of}
use Rattle.js_flow.specs.Parts.{forest_at, loop_of}
use Rattle.js_flow.specs.Statements.{loop_next}
use Rattle.js_flow.specs.Views.{completion_of, place_of}
use Rattle.js_statements.proofs.Loops.{next_is, continued}
use Rattle.js_statements.proofs.looping.after_body.Goals as goal

pub returns-in-Normal-clause-plan : goal.returns-in-Normal-clause-plan
returns-in-Normal-clause-plan c =
    let i = stmt_at (forest_at (trees_of c.args.codes.now.items) c.args.place.code) c.args.id in
    IfOk-weaker c.next_pass.result _ _ (λ k h w cells s. h w cells s ∙ (next_is i (place_of w cells c.args.place) s
    ∙ sym (ap (λ o. loop_next (loop_of i) (place_of w cells c.args.place) (completion_of w cells o) s) c.in-Normal.is))) c.next_pass.ensures.plan

pub returns-in-Continue-clause-plan : goal.returns-in-Continue-clause-plan
returns-in-Continue-clause-plan c =
    let i = stmt_at (forest_at (trees_of c.args.codes.now.items) c.args.place.code) c.args.id in
    IfOk-weaker c.next_pass-in-Continue.result _ _ (λ k h w cells s. h w cells s ∙ (next_is i (place_of w cells c.args.place) s
    ∙ (continued (loop_of i) (place_of w cells c.args.place) s
    ∙ sym (ap (λ o. loop_next (loop_of i) (place_of w cells c.args.place) (completion_of w cells o) s) c.in-Continue.is)))) c.next_pass-in-Continue.ensures.plan
