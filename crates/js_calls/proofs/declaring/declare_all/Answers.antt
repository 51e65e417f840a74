use Rattle.std.proofs.Common.{ℕ, List, Some, map, drop, ◌+◌, arith, subst, ap, ◌∙◌}
use Rattle.js_tree.specs.Forest.{IsFun, fun_at}
use Rattle.object_store.specs.Owned.{scope_number}
use Rattle.widget_meaning.specs.OwnState.{State}
use Rattle.widget_meaning.specs.Plan.{Plan}
use Rattle.widget_meaning.specs.Calls.{declare}
use Rattle.js_image.specs.Image.{image}
use Rattle.js_image.specs.Plans.{paid_plan}
use Rattle.js_image.proofs.Grown.{place_stays}
use Rattle.js_image.proofs.Units.{kept_then}
use Rattle.js_names.specs.Code.{trees_of}
use Rattle.js_names.specs.Hoisting.{fun_texts}
use Rattle.js_flow.specs.Parts.{forest_at}
use Rattle.js_calls.specs.Called.{IfDone, IsNamed}
use Rattle.js_calls.proofs.Declared.{at_other, declare_over, declare_step, declare_stops, one_of}
use Rattle.js_calls.proofs.Named.{all_along}
use Rattle.js_calls.proofs.declaring.declare_all.Goals as goal

pub declare_one-requires-clause-confined : goal.declare_one-requires-clause-confined
declare_one-requires-clause-confined c = c.list.invariant.kept.confined c.requires.confined

pub declare_one-requires-clause-fun : goal.declare_one-requires-clause-fun
declare_one-requires-clause-fun c =
    let f = forest_at (trees_of c.args.codes.now.items) c.args.e.code in
    at_other c.args.list.now.items c.list.n c.id_at-inner.result (IsFun f) c.id_at-inner.ensures c.requires.funs

pub declare_one-requires-clause-scope : goal.declare_one-requires-clause-scope
declare_one-requires-clause-scope c = place_stays c.args.w c.args.store.now.cells c.list.store.cells c.list.invariant.kept.grows (Some c.args.e.scope) c.requires.scope

pub declare_one-requires-clause-named : goal.declare_one-requires-clause-named
declare_one-requires-clause-named c =
    let fs = trees_of c.args.codes.now.items in
    let w = c.args.w in
    let e = c.args.e in
    let f = forest_at fs e.code in
    let list = c.args.list.now.items in
    let n = c.list.n in
    let id = c.id_at-inner.result in
    let at = c.id_at-inner.ensures in
    let cur = c.list.store in
    one_of (IsNamed w cur e.scope) f list n id at c.list.invariant.named

pub list-preserved : goal.list-preserved
list-preserved c =
    let fs = trees_of c.args.codes.now.items in
    let w = c.args.w in
    let e = c.args.e in
    let f = forest_at fs e.code in
    let list = c.args.list.now.items in
    let n = c.list.n in
    let id = c.id_at-inner.result in
    let at = c.id_at-inner.ensures in
    let cur = c.list.store in
    let next = c.declare_one.new.store in
    let i = scope_number w cur.cells e.scope in
    let own = place_stays w c.args.store.now.cells cur.cells c.list.invariant.kept.grows (Some e.scope) c.requires.scope in
    record {
      left = λ r k.
          let kk : State → Plan = λ u. declare (drop (n + 1) (map (fun_at f) list)) i u k in
          declare_step f list n id i (scope_number w next.cells e.scope) (image fs r w cur) (image fs r w next) k _ at (c.declare_one.ensures.kept.grows.scope e.scope own.0)
          (c.in_ok-declare_one.ensures.plan r kk ∙ ap (λ p. paid_plan p kk (image fs r w next)) c.in-Done.is) (c.list.invariant.left r k);
      named = all_along (IsNamed w cur e.scope) (IsNamed w next e.scope) (subst (λ p. IfDone p ((x : List ℕ) → IsNamed w cur e.scope x → IsNamed w next e.scope x)) c.in-Done.is c.in_ok-declare_one.ensures.names) (fun_texts f list) c.list.invariant.named;
      kept = kept_then fs w c.args.store.now cur next c.list.invariant.kept c.declare_one.ensures.kept;
    }

pub returns-in-Stop-clause-plan : goal.returns-in-Stop-clause-plan
returns-in-Stop-clause-plan c =
    let fs = trees_of c.args.codes.now.items in
    let w = c.args.w in
    let e = c.args.e in
    let f = forest_at fs e.code in
    let list = c.args.list.now.items in
    let n = c.list.n in
    let id = c.id_at-inner.result in
    let at = c.id_at-inner.ensures in
    let cur = c.list.store in
    let next = c.declare_one.new.store in
    let i = scope_number w cur.cells e.scope in
    λ r k.
    let kk : State → Plan = λ u. declare (drop (n + 1) (map (fun_at f) list)) i u k in
    declare_stops f list n id i (image fs r w cur) k _ _ at (c.in_ok-declare_one.ensures.plan r kk ∙ ap (λ p. paid_plan p kk (image fs r w next)) c.in-Stop.is) (c.list.invariant.left r k)

pub returns-in-Stop-clause-kept : goal.returns-in-Stop-clause-kept
returns-in-Stop-clause-kept c =
    let fs = trees_of c.args.codes.now.items in
    kept_then fs c.args.w c.args.store.now c.list.store c.declare_one.new.store c.list.invariant.kept c.declare_one.ensures.kept

pub returns-in_err-declare_one-clause-kept : goal.returns-in_err-declare_one-clause-kept
returns-in_err-declare_one-clause-kept c =
    let fs = trees_of c.args.codes.now.items in
    kept_then fs c.args.w c.args.store.now c.list.store c.declare_one.new.store c.list.invariant.kept c.declare_one.ensures.kept

pub returns-clause-plan : goal.returns-clause-plan
returns-clause-plan c =
    let fs = trees_of c.args.codes.now.items in
    let w = c.args.w in
    let e = c.args.e in
    let f = forest_at fs e.code in
    let list = c.args.list.now.items in
    let cur = c.list.store in
    λ r k. declare_over f list c.list.n (scope_number w cur.cells e.scope) (image fs r w cur) k _ (omega arith) (c.list.invariant.left r k)
