use Rattle.std.proofs.Common.{◌≡◌, ap, sym, subst, ◌∙◌}
use Rattle.std.specs.Prelude.{IfOk}
use Rattle.js_tree.specs.Forest.{plain_stmt, stmt_at}
use Rattle.js_tree.specs.Plain.{stmt_names, stmt_place}
use Rattle.js_tree.specs.Trees.{trees}
use Rattle.page_load.specs.Opening.{IsHanded, statement_parts}
use Rattle.page_load.proofs.opening.handed_by_statement.Goals as goal

pub returns-in-Expr : goal.returns-in-Expr
returns-in-Expr c =
    let f = trees c.args.tree.now in
    let at = stmt_place (stmt_at f c.args.id) in
    let names = stmt_names (stmt_at f c.args.id) in
    let e : stmt_at f c.args.id ≡ _ = sym c.stmt.ensures.same ∙ ap (λ n. plain_stmt f n at names) c.in-Expr.is in
    subst (λ p. IfOk c.handed_by_expression.result (IsHanded f p)) (sym (ap statement_parts e)) c.handed_by_expression.ensures
