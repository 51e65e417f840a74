use Rattle.std.proofs.Common.{sym, ap, subst, ◌∙◌}
use Rattle.js_tree.specs.Trees.{trees}
use Rattle.js_tree.specs.Lists.{stmt_list}
use Rattle.js_tree.specs.Forest.{AreStmtParts, plain_stmt, stmt_at}
use Rattle.js_tree.specs.Plain.{Stmt, stmt_names, stmt_place}
use Rattle.js_tree.specs.declared.nodes.Stmt.{Stmt as Node}
use Rattle.js_flow.specs.Parts.{loop_body}
use Rattle.js_direct.proofs.blocks.loop_list.Goals as goal

pub returns-in-While : goal.returns-in-While
returns-in-While c =
    let f = trees c.args.tree.now in
    let s = stmt_at f c.args.id in
    let parts = subst (λ (q : Node). AreStmtParts f q) c.in-While.is c.requires.parts in
    (sym (ap (λ (q : Stmt). stmt_list (loop_body q)) c.requires.node) ∙ ap (λ q. stmt_list (loop_body (plain_stmt f q (stmt_place s) (stmt_names s)))) c.in-While.is ∙ c.lists_agree.ensures.stmts f c.in-While.list.items, parts.1)

pub returns-in-DoWhile : goal.returns-in-DoWhile
returns-in-DoWhile c =
    let f = trees c.args.tree.now in
    let s = stmt_at f c.args.id in
    let parts = subst (λ (q : Node). AreStmtParts f q) c.in-DoWhile.is c.requires.parts in
    (sym (ap (λ (q : Stmt). stmt_list (loop_body q)) c.requires.node) ∙ ap (λ q. stmt_list (loop_body (plain_stmt f q (stmt_place s) (stmt_names s)))) c.in-DoWhile.is ∙ c.lists_agree.ensures.stmts f c.in-DoWhile.list.items, parts.1)

pub returns-in-For : goal.returns-in-For
returns-in-For c =
    let f = trees c.args.tree.now in
    let s = stmt_at f c.args.id in
    let parts = subst (λ (q : Node). AreStmtParts f q) c.in-For.is c.requires.parts in
    (sym (ap (λ (q : Stmt). stmt_list (loop_body q)) c.requires.node) ∙ ap (λ q. stmt_list (loop_body (plain_stmt f q (stmt_place s) (stmt_names s)))) c.in-For.is ∙ c.lists_agree.ensures.stmts f c.in-For.list.items, parts.3)
