use Rattle.std.proofs.Common.{◌≡◌, subst, ◌∙◌, ap}
use Rattle.first_breach.specs.Breaches.{Nothing}
use Rattle.first_breach.specs.Narrowing.{Narrows}
use Rattle.first_breach.proofs.Narrowing.{narrows_both, narrows_along}
use Rattle.js_tree.specs.Trees.{trees}
use Rattle.js_tree.specs.Plain.{StmtAt, stmt_place}
use Rattle.js_tree.specs.Parts.{AStmt}
use Rattle.js_tree.specs.Forest.{plain_stmt_form, stmt_at}
use Rattle.node_rules.specs.Binding.{is_stray, no_jumps, jumps_from}
use Rattle.adsafe_rules.specs.Rows.{Broken}
use Rattle.node_rules.specs.Enclosing.{env_of}
use Rattle.node_rules.proofs.Open.{jumps_are}
use Rattle.adsafe_rules.proofs.Rules.{stmt_rows}
use Rattle.adsafe_rules.proofs.rows.stmt_rules.Goals as goal

pub returns : goal.returns
returns c =
    let f = trees c.args.tree.now in
    let os = c.args.enclosing.now.stack.items in
    let env = env_of f os in
    let at = c.stmt_at-at.result in
    let names = c.stmt_names-places.result.now in
    let form = plain_stmt_form f c.stmt-node.result.now in
    let same : StmtAt at names form ≡ stmt_at f c.args.id = ap (λ p. StmtAt p names form) c.stmt_at-at.ensures ∙ ap (λ l. StmtAt (stmt_place (stmt_at f c.args.id)) l form) c.stmt_names-places.ensures ∙ c.stmt-node.ensures.same in
    let stray : c.is_stray.result ≡ is_stray (jumps_from no_jumps env) form = c.is_stray.ensures f ∙ ap (λ j. is_stray j form) (c.jumps.ensures ∙ jumps_are f no_jumps os c.requires.enclosing.jumps) in
    subst (λ s. Narrows (Broken env (AStmt s)) c.args.best Nothing c.written_loop_variable.result) same
    (stmt_rows env at names form _ _
    (narrows_both (narrows_along (c.is_with.ensures f) c.offer-best.ensures) (narrows_both (narrows_along stray c.offer-best-2.ensures)
    (narrows_both (narrows_along c.is_idle.ensures c.offer-best-3.ensures) (narrows_both (c.used_variable-best.ensures f c.requires.enclosing.known)
    (narrows_both (c.bound_variables-best.ensures f) (c.written_loop_variable.ensures f)))))))
