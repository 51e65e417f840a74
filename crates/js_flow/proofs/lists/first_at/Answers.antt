use Rattle.std.proofs.Common.{sym, ap, subst, ◌∙◌}
use Rattle.std.specs.Prelude.{List}
use Rattle.js_tree.specs.Trees.{trees}
use Rattle.js_tree.specs.Forest.{AreStmtParts, plain_stmt, stmt_at}
use Rattle.js_tree.specs.Plain.{stmt_names, stmt_place, Expr}
use Rattle.js_tree.specs.declared.nodes.Stmt.{Stmt as Node}
use Rattle.js_flow.specs.Parts.{HasExpr, first_of}
use Rattle.js_flow.proofs.lists.first_at.Goals as goal

pub returns-in-For : goal.returns-in-For
returns-in-For c =
    let f = trees c.args.tree.now in
    let s = stmt_at f c.args.id in
    let parts = subst (λ (q : Node). AreStmtParts f q) c.in-For.is c.stmt.ensures.parts in
    let same = sym (ap (λ q. first_of (plain_stmt f q (stmt_place s) (stmt_names s))) c.in-For.is) ∙ ap (λ q. first_of q) c.stmt.ensures.same in
    subst (λ (l : List Expr). HasExpr f l c.args.n c.init_expr.result) same (c.init_expr.ensures f parts.0)
