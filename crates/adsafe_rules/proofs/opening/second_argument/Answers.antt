use Rattle.std.proofs.Common.{◌≡◌, ◌∙◌, sym, ap, arith, subst}
use Rattle.std.specs.Prelude.{All}
use Rattle.js_tree.specs.declared.nodes.Expr.TheVariants as expr
use Rattle.js_tree.specs.Trees.{trees}
use Rattle.js_tree.specs.Plain.{expr_place, expr_names}
use Rattle.js_tree.specs.Forest.{IsExpr, AreExprParts, expr_at, plain_expr}
use Rattle.adsafe_rules.specs.Program.{second_function, call_arguments}
use Rattle.adsafe_rules.proofs.Openings.{more_second}
use Rattle.adsafe_rules.proofs.opening.second_argument.Goals as goal

pub returns-in-More : goal.returns-in-More
returns-in-More c =
    let f = trees c.args.tree.now in
    let at = expr_place (expr_at f c.args.id) in
    let names = expr_names (expr_at f c.args.id) in
    let ids : c.in-Call.args.items ≡ _ = sym c.deref.ensures.value ∙ c.in-More.ensures in
    let e : expr_at f c.args.id ≡ _ = sym c.expr.ensures.same ∙ ap (λ n. plain_expr f n at names) c.in-Call.is in
    let second = ap (λ x. second_function (call_arguments x)) e ∙ more_second f _ _ _ _ c.in-Call.args.items ids in
    let parts : AreExprParts f (expr.Call c.in-Call.field-0 c.in-Call.args) = subst (AreExprParts f) c.in-Call.is c.expr.ensures.parts in
    (subst (λ l. All (IsExpr f) l) ids parts.1 1 c.in-More.b (omega arith), second)
