use Rattle.std.proofs.Common.{◌≡◌, subst, sym, ◌∙◌, ap, Some, None}
use Rattle.first_breach.specs.Breaches.{Nothing, Each}
use Rattle.first_breach.specs.Narrowing.{Narrows}
use Rattle.js_tree.specs.Trees.{trees}
use Rattle.js_tree.specs.Plain.{FunAt}
use Rattle.js_tree.specs.Parts.{AFun}
use Rattle.js_tree.specs.Forest.{plain_fun, fun_at, stmts_at, funs_at}
use Rattle.node_rules.specs.Names.{placed}
use Rattle.adsafe_rules.specs.Rows.{Broken}
use Rattle.node_rules.specs.Sets.{BinderRow}
use Rattle.node_rules.proofs.Placing.{placed_first}
use Rattle.adsafe_rules.proofs.Rules.{fun_rows}
use Rattle.adsafe_rules.proofs.rows.fun_rules.Goals as goal

pub returns-in-Some : goal.returns-in-Some
returns-in-Some c = λ env.
    let f = trees c.args.tree.now in
    let node = c.fun-node.result.now in
    let names = c.fun_names-places.result.now in
    let params = node.params.items in
    let g = FunAt node.at names (Some c.in-Some.name) params (stmts_at f node.body.items) (funs_at f node.funs.items) in
    let same : g ≡ fun_at f c.args.id = ap (λ o. FunAt node.at names o params (stmts_at f node.body.items) (funs_at f node.funs.items)) (sym c.in-Some.is) ∙ ap (plain_fun f node) c.fun_names-places.ensures ∙ c.fun-node.ensures.same in
    subst (λ h. Narrows (Broken env (AFun h)) c.args.best Nothing c.bound_names.result) same
    (fun_rows env g _ _ (placed_first BinderRow _ _ _ node.at names c.after_first.result.now params c.in-Some.name c.place_at.result c.place_at.ensures c.after_first.ensures c.bound-best.ensures
    (subst (λ l. Narrows (Each BinderRow (placed node.at c.after_first.result.now l)) c.bound-best.result Nothing c.bound_names.result) c.deref.ensures.value c.bound_names.ensures)))

pub returns-in-None : goal.returns-in-None
returns-in-None c = λ env.
    let f = trees c.args.tree.now in
    let node = c.fun-node.result.now in
    let names = c.fun_names-places.result.now in
    let params = node.params.items in
    let g = FunAt node.at names None params (stmts_at f node.body.items) (funs_at f node.funs.items) in
    let same : g ≡ fun_at f c.args.id = ap (λ o. FunAt node.at names o params (stmts_at f node.body.items) (funs_at f node.funs.items)) (sym c.in-None.is) ∙ ap (plain_fun f node) c.fun_names-places.ensures ∙ c.fun-node.ensures.same in
    subst (λ h. Narrows (Broken env (AFun h)) c.args.best Nothing c.bound_names-in-None.result) same
    (fun_rows env g _ _ (subst (λ l. Narrows (Each BinderRow (placed node.at names l)) c.args.best Nothing c.bound_names-in-None.result) c.deref-in-None.ensures.value c.bound_names-in-None.ensures))
