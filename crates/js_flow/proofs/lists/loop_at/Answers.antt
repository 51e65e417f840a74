use Rattle.std.proofs.Common.{sym, ap, subst, ◌∙◌}
use Rattle.js_tree.specs.Trees.{trees}
use Rattle.js_tree.specs.Lists.{stmt_list}
use Rattle.js_tree.specs.Forest.{AreStmtParts, IsStmt, plain_stmt, stmt_at}
use Rattle.js_tree.specs.Plain.{Stmt, stmt_names, stmt_place}
use Rattle.js_tree.specs.declared.nodes.Stmt.{Stmt as Node}
use Rattle.js_flow.specs.Parts.{loop_body}
use Rattle.js_flow.proofs.Listing.{listed}
use Rattle.js_flow.proofs.lists.loop_at.Goals as goal

pub returns-in-While : goal.returns-in-While
returns-in-While c =
    let f = trees c.args.tree.now in
    let s = stmt_at f c.args.id in
    let ids = c.in-While.list.items in
    let parts = subst (λ (q : Node). AreStmtParts f q) c.in-While.is c.stmt.ensures.parts in
    let same = sym (ap (λ (q : Stmt). stmt_list (loop_body q)) c.stmt.ensures.same) ∙ ap (λ q. stmt_list (loop_body (plain_stmt f q (stmt_place s) (stmt_names s)))) c.in-While.is ∙ c.lists_agree.ensures.stmts f ids in
    listed (stmt_at f) (IsStmt f) ids c.args.n (stmt_list (loop_body s)) same parts.1 c.stmt_id.result c.stmt_id.ensures.value c.stmt_id.ensures.room

pub returns-in-DoWhile : goal.returns-in-DoWhile
returns-in-DoWhile c =
    let f = trees c.args.tree.now in
    let s = stmt_at f c.args.id in
    let ids = c.in-DoWhile.list.items in
    let parts = subst (λ (q : Node). AreStmtParts f q) c.in-DoWhile.is c.stmt.ensures.parts in
    let same = sym (ap (λ (q : Stmt). stmt_list (loop_body q)) c.stmt.ensures.same) ∙ ap (λ q. stmt_list (loop_body (plain_stmt f q (stmt_place s) (stmt_names s)))) c.in-DoWhile.is ∙ c.lists_agree.ensures.stmts f ids in
    listed (stmt_at f) (IsStmt f) ids c.args.n (stmt_list (loop_body s)) same parts.1 c.stmt_id-in-DoWhile.result c.stmt_id-in-DoWhile.ensures.value c.stmt_id-in-DoWhile.ensures.room

pub returns-in-For : goal.returns-in-For
returns-in-For c =
    let f = trees c.args.tree.now in
    let s = stmt_at f c.args.id in
    let ids = c.in-For.list.items in
    let parts = subst (λ (q : Node). AreStmtParts f q) c.in-For.is c.stmt.ensures.parts in
    let same = sym (ap (λ (q : Stmt). stmt_list (loop_body q)) c.stmt.ensures.same) ∙ ap (λ q. stmt_list (loop_body (plain_stmt f q (stmt_place s) (stmt_names s)))) c.in-For.is ∙ c.lists_agree.ensures.stmts f ids in
    listed (stmt_at f) (IsStmt f) ids c.args.n (stmt_list (loop_body s)) same parts.3 c.stmt_id-in-For.result c.stmt_id-in-For.ensures.value c.stmt_id-in-For.ensures.room

pub returns-in-ForIn : goal.returns-in-ForIn
returns-in-ForIn c =
    let f = trees c.args.tree.now in
    let s = stmt_at f c.args.id in
    let ids = c.in-ForIn.list.items in
    let parts = subst (λ (q : Node). AreStmtParts f q) c.in-ForIn.is c.stmt.ensures.parts in
    let same = sym (ap (λ (q : Stmt). stmt_list (loop_body q)) c.stmt.ensures.same) ∙ ap (λ q. stmt_list (loop_body (plain_stmt f q (stmt_place s) (stmt_names s)))) c.in-ForIn.is ∙ c.lists_agree.ensures.stmts f ids in
    listed (stmt_at f) (IsStmt f) ids c.args.n (stmt_list (loop_body s)) same parts.1 c.stmt_id-in-ForIn.result c.stmt_id-in-ForIn.ensures.value c.stmt_id-in-ForIn.ensures.room
