use Rattle.std.proofs.Common.{◌≡◌, subst, sym, ap, ◌∙◌}
use Rattle.std.proofs.lemmas.Result.{IfOk-weaker}
use Rattle.js_tree.specs.Forest.{Forest, stmt_at}
use Rattle.js_tree.specs.Plain.{CatchAs}
use Rattle.widget_meaning.specs.Statements as statements
use Rattle.js_image.specs.Image.{image, seen}
use Rattle.js_names.specs.Code.{trees_of}
use Rattle.js_flow.specs.declared.job.Block.TheVariants as block
use Rattle.js_flow.specs.Parts.{block_list, catch_body, catch_of, forest_at}
use Rattle.js_flow.specs.Views.{completion_of, place_of}
use Rattle.js_statements.proofs.catching.after_try.Goals as goal

pub returns-in_ok-share-in-Some-clause-plan : goal.returns-in_ok-share-in-Some-clause-plan
returns-in_ok-share-in-Some-clause-plan c =
    let fs = trees_of c.args.codes.now.items in
    let w = c.args.w in
    let old = c.args.store.now in
    let p = place_of w old.cells c.args.at.1 in
    let caught = catch_of (stmt_at (forest_at fs c.args.at.1.code) c.args.at.0) in
    let e = subst (λ (f : Forest). catch_of (stmt_at f c.args.at.0) ≡ CatchAs c.in-Some.name.now (catch_body (catch_of (stmt_at f c.args.at.0)))) c.tree_at.ensures c.in-Some.ensures in
    IfOk-weaker c.in_catch.result _ _ (λ n h. λ r. h r ∙ ap (λ x. statements.in_catch x (block_list (forest_at fs c.args.at.1.code) (block.Catch c.args.at.0)) (seen w old.cells c.in-Throw.value) p (image fs r w old)) c.in_ok-share-in-Some.ensures ∙ sym (ap (λ q. statements.caught q p (completion_of w old.cells c.args.how) (image fs r w old)) e ∙ ap (λ o. statements.caught (CatchAs c.in-Some.name.now (catch_body caught)) p (completion_of w old.cells o) (image fs r w old)) c.in-Throw.is)) c.in_catch.ensures.plan
