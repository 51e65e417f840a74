use Rattle.std.proofs.Common.{◌≡◌, length, subst, sym}
use Rattle.std.specs.Option.{option_map}
use Rattle.std.proofs.lemmas.Result.{IfOk-weaker}
use Rattle.js_tree.specs.declared.tree.Tree.{Tree}
use Rattle.js_tree.specs.Trees.{trees}
use Rattle.js_tree.specs.Forest.{fun_at}
use Rattle.object_store.specs.Owned.{scope_number}
use Rattle.widget_meaning.specs.Costs as costs
use Rattle.widget_meaning.specs.OwnState.{Scope, with_new_scope}
use Rattle.js_image.specs.Image.{all_seen, image, seen}
use Rattle.js_image.specs.Plans.{scope_plan}
use Rattle.js_names.specs.Code.{code_trees}
use Rattle.js_names.specs.Names.{AreNames}
use Rattle.js_calls.specs.Called.{named_scope, scope_called}
use Rattle.js_calls.proofs.Scoped.{scope_is}
use Rattle.js_calls.proofs.scoping.found_scope.Goals as goal

pub returns-clause-plan : goal.returns-clause-plan
returns-clause-plan c =
    let w = c.args.w in
    let old = c.args.store.now in
    let new = c.scope_with.new.store in
    let g = fun_at (code_trees c.args.code.now) c.args.parts.fun in
    let n = c.in_ok-names.names in
    let are : AreNames g n = subst (λ (t : Tree). AreNames (fun_at (trees t) c.args.parts.fun) n) c.tree.ensures c.in_ok-names.ensures in
    let p = c.args.parts in
    let call = c.args.call.now in
    let o = option_map (scope_number w old.cells) p.scope in
    let v = seen w old.cells call.func.now in
    let vs = all_seen w old.cells call.args.now in
    let law = c.scopes_of_calls.ensures in
    let same : scope_called w old.cells (code_trees c.args.code.now) p call ≡ named_scope w old.cells n p call =
    scope_is g n o v vs (law.named g n o v vs are) (law.declared g n o v vs are) p.declared in
    IfOk-weaker c.scope_with.result _ _
    (λ m h fs r k. subst (λ (d : Scope). costs.pay (costs.scope_cost d) (image fs r w old) (λ t. k (length t.own.scopes) (with_new_scope t d)) ≡ scope_plan w new.cells m k (image fs r w new)) (sym same) (h fs r k))
    c.scope_with.ensures.plan
