use Rattle.std.proofs.Common.{◌≡◌, subst, ◌∙◌, ap}
use Rattle.first_breach.specs.Breaches.{Nothing}
use Rattle.first_breach.specs.Narrowing.{Narrows}
use Rattle.first_breach.proofs.Narrowing.{narrows_both}
use Rattle.js_tree.specs.Trees.{trees}
use Rattle.js_tree.specs.Plain.{ExprAt, expr_place}
use Rattle.js_tree.specs.Parts.{AnExpr}
use Rattle.js_tree.specs.Forest.{plain_form, expr_at}
use Rattle.adsafe_rules.specs.Rows.{Broken}
use Rattle.node_rules.specs.Enclosing.{env_of}
use Rattle.adsafe_rules.proofs.Rules.{expr_rows}
use Rattle.adsafe_rules.proofs.rows.expr_rules.Goals as goal

pub returns : goal.returns
returns c =
    let f = trees c.args.tree.now in
    let env = env_of f c.args.enclosing.now.stack.items in
    let at = c.expr_at-at.result in
    let names = c.expr_names-places.result.now in
    let form = plain_form f c.expr-node.result.now in
    let same : ExprAt at names form ≡ expr_at f c.args.id = ap (λ p. ExprAt p names form) c.expr_at-at.ensures ∙ ap (λ l. ExprAt (expr_place (expr_at f c.args.id)) l form) c.expr_names-places.ensures ∙ c.expr-node.ensures.same in
    subst (λ e. Narrows (Broken env (AnExpr e)) c.args.best Nothing c.wrong_target_rule.result) same
    (expr_rows env at names form _ _
    (narrows_both (c.form_rules-best.ensures f) (narrows_both (c.used_name-best.ensures f names c.requires.enclosing.known)
    (narrows_both c.property_rules-best.ensures (narrows_both c.random_rule-best.ensures
    (narrows_both (c.target_rule-best.ensures at names) (narrows_both c.subscript_rule-best.ensures c.wrong_target_rule.ensures)))))))
