use Rattle.std.proofs.Common.{sym, ap, subst, ◌∙◌}
use Rattle.js_tree.specs.Trees.{trees}
use Rattle.js_tree.specs.Forest.{AreExprParts, IsExpr, expr_at, plain_expr}
use Rattle.js_tree.specs.Plain.{expr_names, expr_place}
use Rattle.js_tree.specs.declared.nodes.Expr.{Expr as Node}
use Rattle.js_flow.specs.Parts.{elements_of}
use Rattle.js_flow.proofs.Listing.{listed}
use Rattle.js_flow.proofs.lists.element_at.Goals as goal

pub returns-in-Array : goal.returns-in-Array
returns-in-Array c =
    let f = trees c.args.tree.now in
    let e = expr_at f c.args.array in
    let ids = c.in-Array.list.items in
    let parts = subst (λ (q : Node). AreExprParts f q) c.in-Array.is c.expr.ensures.parts in
    let same = sym (ap elements_of c.expr.ensures.same) ∙ ap (λ q. elements_of (plain_expr f q (expr_place e) (expr_names e))) c.in-Array.is ∙ c.lists_agree.ensures.exprs f ids in
    listed (expr_at f) (IsExpr f) ids c.args.n (elements_of e) same parts c.expr_id.result c.expr_id.ensures.value c.expr_id.ensures.room
