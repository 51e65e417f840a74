use Rattle.std.proofs.Common.{◌≡◌, ap, sym, subst, ◌∙◌}
use Rattle.std.specs.Prelude.{IfOk}
use Rattle.js_tree.specs.Forest.{expr_at, exprs_at, plain_expr}
use Rattle.js_tree.specs.Plain.{expr_names, expr_place}
use Rattle.js_tree.specs.Trees.{trees}
use Rattle.page_load.specs.Opening.{IsHanded, arguments_parts, expression_parts}
use Rattle.page_load.proofs.opening.handed_by_expression.Goals as goal

pub returns-in-Call : goal.returns-in-Call
returns-in-Call c =
    let f = trees c.args.tree.now in
    let at = expr_place (expr_at f c.args.id) in
    let names = expr_names (expr_at f c.args.id) in
    let e : expr_at f c.args.id ≡ _ = sym c.expr.ensures.same ∙ ap (λ n. plain_expr f n at names) c.in-Call.is in
    subst (λ p. IfOk c.handed_by_arguments.result (IsHanded f p)) (ap (λ ids. arguments_parts (exprs_at f ids)) c.deref.ensures.value ∙ sym (ap expression_parts e)) c.handed_by_arguments.ensures
