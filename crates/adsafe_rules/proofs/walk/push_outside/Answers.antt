use Rattle.std.proofs.Common.{◌≡◌, sym, subst, ap, ◌∙◌}
use Rattle.std.specs.Prelude.{map}
use Rattle.js_tree.specs.Trees.{trees}
use Rattle.js_tree.specs.Forest.{expr_at, stmt_at}
use Rattle.js_tree.specs.Parts.{AnExpr, AStmt, spot_at}
use Rattle.node_rules.specs.Parts.{outer}
use Rattle.node_rules.specs.Work.{expr_work, outer_work}
use Rattle.adsafe_rules.specs.Walk.{Pushes}
use Rattle.adsafe_rules.proofs.Parting.{expr_plain, outer_plain, expr_in, outer_in}
use Rattle.adsafe_rules.proofs.walk.push_outside.Goals as goal

pub returns-in_ok-push_expr_parts-in-Expr : goal.returns-in_ok-push_expr_parts-in-Expr
returns-in_ok-push_expr_parts-in-Expr c =
    let f = trees c.args.tree.now in
    let node = c.expr.result.now in
    let e : outer (AnExpr (expr_at f c.in-Expr.id)) ≡ map (spot_at f) (expr_work f node) = ap (λ x. outer (AnExpr x)) (sym c.expr.ensures.same) ∙ expr_plain f node in
    subst (λ p. Pushes f c.args.next.depth (outer (spot_at f p)) c.args.work.now.items c.push_expr_parts.new.work.items) (sym c.in-Expr.is)
    (record { parts = expr_work f node; same = e; are_in = expr_in f node c.expr.ensures.parts; pushed = c.in_ok-push_expr_parts-in-Expr.ensures })

pub returns-in_ok-push_outer-in-Stmt : goal.returns-in_ok-push_outer-in-Stmt
returns-in_ok-push_outer-in-Stmt c =
    let f = trees c.args.tree.now in
    let node = c.stmt.result.now in
    let e : outer (AStmt (stmt_at f c.in-Stmt.id)) ≡ map (spot_at f) (outer_work node) = ap (λ x. outer (AStmt x)) (sym c.stmt.ensures.same) ∙ outer_plain f node in
    subst (λ p. Pushes f c.args.next.depth (outer (spot_at f p)) c.args.work.now.items c.push_outer.new.work.items) (sym c.in-Stmt.is)
    (record { parts = outer_work node; same = e; are_in = outer_in f node c.stmt.ensures.parts; pushed = c.in_ok-push_outer-in-Stmt.ensures })
