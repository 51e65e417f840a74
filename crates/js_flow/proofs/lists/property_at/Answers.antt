use Rattle.std.proofs.Common.{sym, ap, subst, ◌∙◌}
use Rattle.std.specs.Prelude.{option_copied}
use Rattle.js_tree.specs.Trees.{trees}
use Rattle.js_tree.specs.Forest.{AreExprParts, IsExpr, expr_at, plain_expr}
use Rattle.js_tree.specs.Plain.{expr_names, expr_place}
use Rattle.js_tree.specs.declared.nodes.Expr.{Expr as Node}
use Rattle.js_flow.specs.Parts.{properties_of}
use Rattle.js_flow.proofs.Listing.{listed}
use Rattle.js_flow.proofs.lists.property_at.Goals as goal

pub returns-in-Object : goal.returns-in-Object
returns-in-Object c =
    let f = trees c.args.tree.now in
    let e = expr_at f c.args.object in
    let ids = c.in-Object.list.items in
    let parts = subst (λ (q : Node). AreExprParts f q) c.in-Object.is c.expr.ensures.parts in
    let same = sym (ap properties_of c.expr.ensures.same) ∙ ap (λ q. properties_of (plain_expr f q (expr_place e) (expr_names e))) c.in-Object.is ∙ c.lists_agree.ensures.properties f ids in
    listed (λ p. (p.0, expr_at f p.1)) (λ p. IsExpr f p.1) ids c.args.n (properties_of e) same parts (option_copied c.property_in.result) c.property_in.ensures.value c.property_in.ensures.room
