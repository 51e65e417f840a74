use Rattle.std.proofs.Common.{sym, ap, subst, ◌∙◌}
use Rattle.std.specs.Prelude.{List}
use Rattle.js_tree.specs.Trees.{trees}
use Rattle.js_tree.specs.Forest.{AreStmtParts, plain_stmt, stmt_at}
use Rattle.js_tree.specs.Plain.{stmt_names, stmt_place, Stmt}
use Rattle.js_tree.specs.declared.nodes.Stmt.{Stmt as Node}
use Rattle.js_tree.specs.Lists.{stmt_list}
use Rattle.js_flow.specs.Parts.{HasStmt, finally_body, finally_of}
use Rattle.js_flow.proofs.lists.finally_at.Goals as goal

pub returns-in-Try : goal.returns-in-Try
returns-in-Try c =
    let f = trees c.args.tree.now in
    let s = stmt_at f c.args.id in
    let parts = subst (λ (q : Node). AreStmtParts f q) c.in-Try.is c.stmt.ensures.parts in
    let same = sym (ap (λ q. stmt_list (finally_body (finally_of (plain_stmt f q (stmt_place s) (stmt_names s))))) c.in-Try.is) ∙ ap (λ q. stmt_list (finally_body (finally_of q))) c.stmt.ensures.same in
    subst (λ (l : List Stmt). HasStmt f l c.args.n c.last_id.result) same (c.last_id.ensures f parts.2)
