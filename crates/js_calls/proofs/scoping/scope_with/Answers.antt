use Rattle.std.proofs.Common.{◌≡◌, ℕ, ◌++◌, List, Option, length, map, ap, subst, sym, ◌∙◌}
use Rattle.std.specs.Prelude.{option_to_list}
use Rattle.std.specs.List.{IsDistinct}
use Rattle.std.specs.Str.{bytes_eq}
use Rattle.std.specs.Option.{option_map}
use Rattle.std.proofs.lemmas.Result.{IfOk-weaker}
use Rattle.store_cells.specs.First.{own_value, placed_values}
use Rattle.object_store.specs.Owned.{scope_number}
use Rattle.widget_meaning.specs.Costs as costs
use Rattle.widget_meaning.specs.OwnState.{Scope, with_new_scope}
use Rattle.js_image.specs.Image.{image}
use Rattle.js_image.specs.Plans.{scope_of, scope_plan}
use Rattle.js_calls.specs.Called.{named_scope}
use Rattle.js_calls.proofs.Pairs.{fine_first, first_texts, named_by, seen_first}
use Rattle.js_calls.proofs.Scoped.{names_differ}
use Rattle.js_calls.proofs.scoping.scope_with.Goals as goal

pub make_call_scope-requires-clause-names : goal.make_call_scope-requires-clause-names
make_call_scope-requires-clause-names c =
    let n = c.args.names.now in
    let call = c.args.call.now in
    let own = c.own_name.result.now in
    subst (IsDistinct bytes_eq) (ap (λ (o : Option (List ℕ)). map (λ x. x.text) n.names.items ++ option_to_list o) (sym c.own_name.ensures) ∙ sym (first_texts n.names.items call.args.now own call.func.now))
    (names_differ (map (λ x. x.text) n.names.items) n.own c.requires.names c.args.parts.declared)

pub make_call_scope-requires-clause-values : goal.make_call_scope-requires-clause-values
make_call_scope-requires-clause-values c =
    fine_first c.args.w c.args.store.now.cells c.args.names.now.names.items c.args.call.now.args.now c.own_name.result.now c.args.call.now.func.now c.requires.held.1 c.requires.held.0

pub returns-clause-plan : goal.returns-clause-plan
returns-clause-plan c =
    let w = c.args.w in
    let old = c.args.store.now in
    let new = c.make_call_scope.new.store in
    let n = c.args.names.now in
    let call = c.args.call.now in
    let own = c.own_name.result.now in
    let same : scope_of w old.cells c.args.parts.scope (placed_values n.names.items call.args.now ++ own_value own call.func.now) ≡ named_scope w old.cells n c.args.parts call =
    (λ i. record { outer = option_map (scope_number w old.cells) c.args.parts.scope; pairs = seen_first w old.cells n.names.items call.args.now own call.func.now i })
    ∙ named_by w old.cells n c.args.parts call own c.own_name.ensures in
    IfOk-weaker c.make_call_scope.result _ _
    (λ m h fs r k. subst (λ (d : Scope). costs.pay (costs.scope_cost d) (image fs r w old) (λ t. k (length t.own.scopes) (with_new_scope t d)) ≡ scope_plan w new.cells m k (image fs r w new)) same (h fs r k))
    c.make_call_scope.ensures.plan
