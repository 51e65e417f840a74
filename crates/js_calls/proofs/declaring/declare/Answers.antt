use Rattle.std.proofs.Common.{◌≡◌, Some, arith, refl, sym, subst, ap, ◌∙◌, map}
use Rattle.std.specs.Prelude.{All}
use Rattle.std.specs.List.{flat_map}
use Rattle.js_tree.specs.Forest.{Forest, IsFun, fun_at}
use Rattle.js_tree.specs.Lists.{fun_list}
use Rattle.js_tree.specs.Plain.{fun_names}
use Rattle.js_tree.specs.Trees.{trees}
use Rattle.object_store.specs.Owned.{scope_number}
use Rattle.widget_meaning.specs.OwnState.{State}
use Rattle.widget_meaning.specs.Plan.{Plan, and_then}
use Rattle.widget_meaning.specs.Scopes.{fun_name}
use Rattle.widget_meaning.specs.Calls.{call_body, call_end, declare, statements}
use Rattle.js_image.specs.Image.{image}
use Rattle.js_image.specs.Plans.{paid_plan}
use Rattle.js_names.specs.Code.{trees_of}
use Rattle.js_names.specs.Hoisting.{fun_texts}
use Rattle.js_flow.specs.declared.job.Block.TheVariants as block
use Rattle.js_flow.specs.declared.job.Place.{Place}
use Rattle.js_flow.specs.Parts.{block_list, body_of, forest_at, funs_of}
use Rattle.js_flow.specs.Statements.{block_at}
use Rattle.js_calls.specs.Called.{AreNamed}
use Rattle.js_calls.proofs.Declared.{declare_over, funs_are, texts_are}
use Rattle.js_calls.proofs.declaring.declare.Goals as goal

pub fun-node-requires : goal.fun-node-requires
fun-node-requires c = subst (λ (f : Forest). IsFun f c.args.e.fun) (sym c.tree_at-tree.ensures) c.requires.fun

pub declare_all-requires-clause-funs : goal.declare_all-requires-clause-funs
declare_all-requires-clause-funs c = subst (λ (f : Forest). All (IsFun f) c.fun-node.result.now.funs.items) c.tree_at-tree.ensures c.fun-node.ensures.parts.1

pub declare_all-requires-clause-named : goal.declare_all-requires-clause-named
declare_all-requires-clause-named c =
    let t = trees c.tree_at-tree.result.now in
    let node = c.fun-node.result.now in
    let texts = texts_are t node (fun_names (fun_at t c.args.e.fun)) (fun_at t c.args.e.fun) c.fun-node.ensures.same (c.lists_agree.ensures.funs t node.funs.items) in
    let all = subst (λ (f : Forest). flat_map fun_name (fun_list (funs_of (fun_at f c.args.e.fun))) ≡ fun_texts f node.funs.items) c.tree_at-tree.ensures texts in
    subst (AreNamed c.args.w c.args.store.now c.args.e.scope) all c.requires.named

pub returns-in-Stop-clause-plan : goal.returns-in-Stop-clause-plan
returns-in-Stop-clause-plan c =
    let fs = trees_of c.args.codes.now.items in
    let w = c.args.w in
    let old = c.args.store.now in
    let new = c.declare_all.new.store in
    let e = c.args.e in
    let f = forest_at fs e.code in
    let t = trees c.tree_at-tree.result.now in
    let node = c.fun-node.result.now in
    let i = scope_number w old.cells e.scope in
    let list = subst (λ (f : Forest). fun_list (funs_of (fun_at f e.fun)) ≡ map (fun_at f) node.funs.items) c.tree_at-tree.ensures
    (funs_are t node (fun_names (fun_at t e.fun)) (fun_at t e.fun) c.fun-node.ensures.same (c.lists_agree.ensures.funs t node.funs.items)) in
    let k : State → Plan = call_body (body_of (fun_at f e.fun)) (record { scope = Some i; depth = e.depth }) in
    λ r. sym (ap (λ l. declare l i (image fs r w old) k) list ∙ c.in_ok-cause.ensures.plan r k ∙ ap (λ p. paid_plan p k (image fs r w new)) c.in-Stop.is)

pub returns-then-len-eq0-clause-plan : goal.returns-then-len-eq0-clause-plan
returns-then-len-eq0-clause-plan c =
    let fs = trees_of c.args.codes.now.items in
    let w = c.args.w in
    let s = c.args.store.now in
    let e = c.args.e in
    let f = forest_at fs e.code in
    let t = trees c.tree_at-tree.result.now in
    let node = c.fun-node.result.now in
    let i = scope_number w s.cells e.scope in
    let list = subst (λ (f : Forest). fun_list (funs_of (fun_at f e.fun)) ≡ map (fun_at f) node.funs.items) c.tree_at-tree.ensures
    (funs_are t node (fun_names (fun_at t e.fun)) (fun_at t e.fun) c.fun-node.ensures.same (c.lists_agree.ensures.funs t node.funs.items)) in
    let k : State → Plan = call_body (body_of (fun_at f e.fun)) (record { scope = Some i; depth = e.depth }) in
    λ r. ap (λ (p : Place). and_then (block_at fs w s.cells (block.Body e.fun) 0 p (image fs r w s)) call_end) c.place_in.ensures
    ∙ sym (ap (λ l. declare l i (image fs r w s) k) list ∙ declare_over f node.funs.items 0 i (image fs r w s) k _ (omega arith) refl)

pub returns-in-Done-clause-plan : goal.returns-in-Done-clause-plan
returns-in-Done-clause-plan c =
    let fs = trees_of c.args.codes.now.items in
    let w = c.args.w in
    let old = c.args.store.now in
    let new = c.declare_all.new.store in
    let e = c.args.e in
    let f = forest_at fs e.code in
    let t = trees c.tree_at-tree.result.now in
    let node = c.fun-node.result.now in
    let i = scope_number w old.cells e.scope in
    let list = subst (λ (f : Forest). fun_list (funs_of (fun_at f e.fun)) ≡ map (fun_at f) node.funs.items) c.tree_at-tree.ensures
    (funs_are t node (fun_names (fun_at t e.fun)) (fun_at t e.fun) c.fun-node.ensures.same (c.lists_agree.ensures.funs t node.funs.items)) in
    let k : State → Plan = call_body (body_of (fun_at f e.fun)) (record { scope = Some i; depth = e.depth }) in
    λ r. ap (λ (p : Place). and_then (block_at fs w new.cells (block.Body e.fun) 0 p (image fs r w new)) call_end) c.place_in-in-Done.ensures
    ∙ ap (λ n. and_then (statements (block_list f (block.Body e.fun)) (record { scope = Some n; depth = e.depth }) (image fs r w new)) call_end) (c.declare_all.ensures.kept.grows.scope e.scope c.requires.scope.0)
    ∙ sym (ap (λ l. declare l i (image fs r w old) k) list ∙ c.in_ok-cause.ensures.plan r k ∙ ap (λ p. paid_plan p k (image fs r w new)) c.in-Done.is)
