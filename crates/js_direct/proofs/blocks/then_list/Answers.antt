use Rattle.std.proofs.Common.{sym, ap, subst, ◌∙◌}
use Rattle.js_tree.specs.Trees.{trees}
use Rattle.js_tree.specs.Lists.{stmt_list}
use Rattle.js_tree.specs.Forest.{AreStmtParts, plain_stmt, stmt_at}
use Rattle.js_tree.specs.Plain.{Stmt, stmt_names, stmt_place}
use Rattle.js_tree.specs.declared.nodes.Stmt.{Stmt as Node}
use Rattle.js_flow.specs.Parts.{then_of}
use Rattle.js_direct.proofs.blocks.then_list.Goals as goal

pub returns-in-If : goal.returns-in-If
returns-in-If c =
    let f = trees c.args.tree.now in
    let s = stmt_at f c.args.id in
    let parts = subst (λ (q : Node). AreStmtParts f q) c.in-If.is c.stmt.ensures.parts in
    (sym (ap (λ (q : Stmt). stmt_list (then_of q)) c.stmt.ensures.same) ∙ ap (λ q. stmt_list (then_of (plain_stmt f q (stmt_place s) (stmt_names s)))) c.in-If.is ∙ c.lists_agree.ensures.stmts f c.in-If.list.items, parts.1)
