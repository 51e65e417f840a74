use Rattle.std.proofs.Common.{sym, ap, subst, ◌∙◌}
use Rattle.js_tree.specs.Trees.{trees}
use Rattle.js_tree.specs.Lists.{stmt_list}
use Rattle.js_tree.specs.Forest.{AreStmtParts, IsStmt, plain_stmt, stmt_at}
use Rattle.js_tree.specs.Plain.{Stmt, stmt_names, stmt_place}
use Rattle.js_tree.specs.declared.nodes.Stmt.{Stmt as Node}
use Rattle.js_flow.specs.Parts.{then_of}
use Rattle.js_flow.proofs.Listing.{listed}
use Rattle.js_flow.proofs.lists.then_at.Goals as goal

pub returns-in-If : goal.returns-in-If
returns-in-If c =
    let f = trees c.args.tree.now in
    let s = stmt_at f c.args.id in
    let ids = c.in-If.list.items in
    let parts = subst (λ (q : Node). AreStmtParts f q) c.in-If.is c.stmt.ensures.parts in
    let same = sym (ap (λ (q : Stmt). stmt_list (then_of q)) c.stmt.ensures.same) ∙ ap (λ q. stmt_list (then_of (plain_stmt f q (stmt_place s) (stmt_names s)))) c.in-If.is ∙ c.lists_agree.ensures.stmts f ids in
    listed (stmt_at f) (IsStmt f) ids c.args.n (stmt_list (then_of s)) same parts.1 c.stmt_id.result c.stmt_id.ensures.value c.stmt_id.ensures.room
