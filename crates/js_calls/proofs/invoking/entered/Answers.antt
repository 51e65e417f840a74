use Rattle.std.proofs.Common.{◌≡◌, ℕ, true, arith, refl, sym, subst, ap, ◌∙◌, ◌+◌}
use Rattle.std.specs.Prelude.{[], is_some}
use Rattle.std.specs.List.{AllByRecursion, flat_map}
use Rattle.std.specs.Option.{option_map}
use Rattle.std.proofs.lemmas.Result.{IfOk-weaker}
use Rattle.js_tree.specs.Forest.{Forest, IsFun, fun_at}
use Rattle.js_tree.specs.Lists.{fun_list}
use Rattle.object_store.specs.Owned.{scope_number}
use Rattle.widget_meaning.specs.OwnState.{Scope, State, lookup}
use Rattle.widget_meaning.specs.Plan.{Plan}
use Rattle.widget_meaning.specs.Scopes.{call_scope, fun_name}
use Rattle.js_image.specs.Image.{all_seen, function_in, image, no_rest, seen}
use Rattle.js_image.specs.Plans.{IsScopeMade, scope_plan}
use Rattle.js_image.proofs.Units.{kept_then}
use Rattle.js_names.specs.Code.{code_trees, trees_of}
use Rattle.js_flow.specs.Parts.{body_of, forest_at, funs_of}
use Rattle.js_calls.specs.Called.{declared_at, scope_called, scope_in}
use Rattle.js_calls.proofs.Entering.{declared_body, declared_funs, entered, then_declare, too_deep}
use Rattle.js_calls.proofs.Named.{inner_names, scoped_names}
use Rattle.js_calls.proofs.Paid.{scope_made}
use Rattle.js_calls.proofs.invoking.entered.Goals as goal

pub returns-then-depth-ge200-clause-plan : goal.returns-then-depth-ge200-clause-plan
returns-then-depth-ge200-clause-plan c =
    let fs = trees_of c.args.codes.now.items in
    let s = c.args.store.now in
    let p = c.args.parts in
    λ r. too_deep (function_in fs p.code p.fun p.declared) (option_map (scope_number c.args.w s.cells) p.scope) (seen c.args.w s.cells c.args.call.now.func.now) (all_seen c.args.w s.cells c.args.call.now.args.now) c.args.call.now.depth (image fs r c.args.w s) (omega arith)

pub open_scope-requires-clause-fun : goal.open_scope-requires-clause-fun
open_scope-requires-clause-fun c = subst (λ (f : Forest). IsFun f c.args.parts.fun) (sym c.code_at.ensures) c.requires.fun.0.1

pub returns-in-Stop-clause-plan : goal.returns-in-Stop-clause-plan
returns-in-Stop-clause-plan c =
    let fs = trees_of c.args.codes.now.items in
    let w = c.args.w in
    let old = c.args.store.now in
    let mid = c.open_scope.new.store in
    let p = c.args.parts in
    let g = function_in fs p.code p.fun p.declared in
    let at = fun_at (forest_at fs p.code) p.fun in
    let o = option_map (scope_number w old.cells) p.scope in
    let v = seen w old.cells c.args.call.now.func.now in
    let vs = all_seen w old.cells c.args.call.now.args.now in
    let made = scope_called w old.cells (code_trees c.code_at.result.now) p c.args.call.now in
    let same : call_scope g o v vs ≡ made =
    ap (λ (t : Forest). call_scope (declared_at t p.fun p.declared) o v vs) (sym c.code_at.ensures) in
    let k : ℕ → State → Plan = then_declare (funs_of at) (body_of at) (c.args.call.now.depth + 1) in
    λ r. entered g (funs_of at) (body_of at) o v vs c.args.call.now.depth (c.args.call.now.depth + 1) (image fs r w old) made _ (omega arith) refl
    (declared_funs (forest_at fs p.code) p.fun p.declared) (declared_body (forest_at fs p.code) p.fun p.declared) same
    (c.in_ok-cause.ensures.plan fs r k ∙ ap (λ m. scope_plan w mid.cells m k (image fs r w mid)) c.in-Stop.is)

pub declare-requires-clause-scope : goal.declare-requires-clause-scope
declare-requires-clause-scope c = subst (IsScopeMade c.args.w c.open_scope.new.store.cells) c.in-Cell.is c.in_ok-cause.ensures.fine

pub declare-requires-clause-confined : goal.declare-requires-clause-confined
declare-requires-clause-confined c = (c.open_scope.ensures.kept (trees_of c.args.codes.now.items)).confined c.requires.confined

pub declare-requires-clause-named : goal.declare-requires-clause-named
declare-requires-clause-named c =
    let fs = trees_of c.args.codes.now.items in
    let w = c.args.w in
    let old = c.args.store.now in
    let mid = c.open_scope.new.store in
    let p = c.args.parts in
    let g = function_in fs p.code p.fun p.declared in
    let o = option_map (scope_number w old.cells) p.scope in
    let v = seen w old.cells c.args.call.now.func.now in
    let vs = all_seen w old.cells c.args.call.now.args.now in
    let made = scope_called w old.cells (code_trees c.code_at.result.now) p c.args.call.now in
    let same : call_scope g o v vs ≡ made =
    ap (λ (t : Forest). call_scope (declared_at t p.fun p.declared) o v vs) (sym c.code_at.ensures) in
    let has = scope_made made (image [] no_rest w old) (image [] no_rest w mid) (scope_number w mid.cells c.in-Cell.scope)
    (λ k. c.in_ok-cause.ensures.plan [] no_rest k ∙ ap (λ m. scope_plan w mid.cells m k (image [] no_rest w mid)) c.in-Cell.is) in
    subst (λ us. AllByRecursion (λ x. is_some (lookup (scope_in w mid c.in-Cell.scope).pairs x) ≡ true) (flat_map fun_name (fun_list us))) (declared_funs (forest_at fs p.code) p.fun p.declared)
    (subst (λ (d : Scope). AllByRecursion (λ x. is_some (lookup d.pairs x) ≡ true) (inner_names g)) (same ∙ sym has) (scoped_names g o v vs))

pub returns-in-Cell-clause-plan : goal.returns-in-Cell-clause-plan
returns-in-Cell-clause-plan c =
    let fs = trees_of c.args.codes.now.items in
    let w = c.args.w in
    let old = c.args.store.now in
    let mid = c.open_scope.new.store in
    let p = c.args.parts in
    let g = function_in fs p.code p.fun p.declared in
    let at = fun_at (forest_at fs p.code) p.fun in
    let o = option_map (scope_number w old.cells) p.scope in
    let v = seen w old.cells c.args.call.now.func.now in
    let vs = all_seen w old.cells c.args.call.now.args.now in
    let made = scope_called w old.cells (code_trees c.code_at.result.now) p c.args.call.now in
    let same : call_scope g o v vs ≡ made =
    ap (λ (t : Forest). call_scope (declared_at t p.fun p.declared) o v vs) (sym c.code_at.ensures) in
    let k : ℕ → State → Plan = then_declare (funs_of at) (body_of at) (c.args.call.now.depth + 1) in
    IfOk-weaker c.declare.result _ _
    (λ n h r. h r ∙ entered g (funs_of at) (body_of at) o v vs c.args.call.now.depth (c.args.call.now.depth + 1) (image fs r w old) made _ (omega arith) refl
    (declared_funs (forest_at fs p.code) p.fun p.declared) (declared_body (forest_at fs p.code) p.fun p.declared) same
    (c.in_ok-cause.ensures.plan fs r k ∙ ap (λ m. scope_plan w mid.cells m k (image fs r w mid)) c.in-Cell.is))
    c.declare.ensures.plan

pub returns-in-Cell-clause-kept : goal.returns-in-Cell-clause-kept
returns-in-Cell-clause-kept c =
    let fs = trees_of c.args.codes.now.items in
    kept_then fs c.args.w c.args.store.now c.open_scope.new.store c.declare.new.store (c.open_scope.ensures.kept fs) c.declare.ensures.kept
