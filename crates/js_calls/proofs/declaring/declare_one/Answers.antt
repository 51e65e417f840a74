use Rattle.std.proofs.Common.{◌≡◌, Some, sym, subst, ap, ◌∙◌}
use Rattle.std.specs.Prelude.{option_to_list}
use Rattle.js_tree.specs.Forest.{Forest, IsFun, fun_at}
use Rattle.js_tree.specs.Plain.{Fun, fun_names}
use Rattle.js_tree.specs.Trees.{trees}
use Rattle.store_cells.specs.declared.value.Value.TheVariants as value
use Rattle.object_store.specs.Owned.{scope_number}
use Rattle.widget_meaning.specs.Values.{Value}
use Rattle.widget_meaning.specs.OwnState.{State, new_function}
use Rattle.widget_meaning.specs.Plan.{Plan}
use Rattle.widget_meaning.specs.Scopes.{fun_name, without_name}
use Rattle.widget_meaning.specs.Calls.{with_variable}
use Rattle.js_image.specs.Image.{image, no_rest, seen}
use Rattle.js_image.specs.Plans.{IsFineMade, made_plan}
use Rattle.js_image.proofs.Grown.{place_stays}
use Rattle.js_image.proofs.Units.{kept_then}
use Rattle.js_names.specs.Code.{trees_of}
use Rattle.js_flow.specs.Parts.{forest_at}
use Rattle.js_calls.specs.Called.{AreNamed, IsNamed}
use Rattle.js_calls.proofs.Declared.{name_is, named_then, still_there, still_written}
use Rattle.js_calls.proofs.Named.{all_along}
use Rattle.js_calls.proofs.Paid.{scopes_stay}
use Rattle.js_calls.proofs.declaring.declare_one.Goals as goal

pub fun-node-requires : goal.fun-node-requires
fun-node-requires c = subst (λ (f : Forest). IsFun f c.args.inner) (sym c.tree_at-tree.ensures) c.requires.fun

pub returns-in_err-cause-clause-kept : goal.returns-in_err-cause-clause-kept
returns-in_err-cause-clause-kept c = c.make.ensures.kept (trees_of c.args.codes.now.items) (c.requires.code, c.requires.fun)

pub returns-in-Stop-clause-kept : goal.returns-in-Stop-clause-kept
returns-in-Stop-clause-kept c = c.make.ensures.kept (trees_of c.args.codes.now.items) (c.requires.code, c.requires.fun)

pub returns-in-Stop-clause-plan : goal.returns-in-Stop-clause-plan
returns-in-Stop-clause-plan c =
    let fs = trees_of c.args.codes.now.items in
    let w = c.args.w in
    let old = c.args.store.now in
    let mid = c.make.new.store in
    let scope = c.args.e.scope in
    let i = scope_number w old.cells scope in
    let g : Fun = fun_at (forest_at fs c.args.e.code) c.args.inner in
    λ r k.
    let kk : Value → State → Plan = λ u t. k (with_variable t i (fun_name g) u) in
    c.in_ok-cause.ensures.plan fs r kk ∙ ap (λ m. made_plan w mid.cells m kk (image fs r w mid)) c.in-Stop.is

pub set_name-requires-clause-scope : goal.set_name-requires-clause-scope
set_name-requires-clause-scope c =
    let fs = trees_of c.args.codes.now.items in
    let w = c.args.w in
    let old = c.args.store.now in
    let mid = c.make.new.store in
    let scope = c.args.e.scope in
    let i = scope_number w old.cells scope in
    let g : Fun = fun_at (forest_at fs c.args.e.code) c.args.inner in
    let first = c.make.ensures.kept fs (c.requires.code, c.requires.fun) in
    place_stays w old.cells mid.cells first.grows (Some scope) c.requires.scope

pub set_name-requires-clause-value : goal.set_name-requires-clause-value
set_name-requires-clause-value c = subst (IsFineMade c.args.w c.make.new.store.cells) c.in-Cell.is c.in_ok-cause.ensures.fine

pub set_name-requires-clause-named : goal.set_name-requires-clause-named
set_name-requires-clause-named c =
    let fs = trees_of c.args.codes.now.items in
    let w = c.args.w in
    let old = c.args.store.now in
    let mid = c.make.new.store in
    let scope = c.args.e.scope in
    let i = scope_number w old.cells scope in
    let g : Fun = fun_at (forest_at fs c.args.e.code) c.args.inner in
    let first = c.make.ensures.kept fs (c.requires.code, c.requires.fun) in
    let node = c.fun-node.result.now in
    let t = trees c.tree_at-tree.result.now in
    let named : fun_name g ≡ option_to_list node.name =
    ap (λ (f : Forest). fun_name (fun_at f c.args.inner)) (sym c.tree_at-tree.ensures) ∙ name_is t node (fun_names (fun_at t c.args.inner)) (fun_at t c.args.inner) c.fun-node.ensures.same in
    let v = seen w mid.cells (value.Ref c.in-Cell.id) in
    let same = scopes_stay (new_function (without_name g) (Some i)) (image fs no_rest w old) (image fs no_rest w mid) v
    (λ k. c.in_ok-cause.ensures.plan fs no_rest k ∙ ap (λ m. made_plan w mid.cells m k (image fs no_rest w mid)) c.in-Cell.is) in
    all_along (IsNamed w old scope) (IsNamed w mid scope) (still_there fs w old mid scope c.requires.scope first.grows same) (option_to_list node.name)
    (subst (AreNamed w old scope) named c.requires.named)

pub returns-in-Cell-clause-plan : goal.returns-in-Cell-clause-plan
returns-in-Cell-clause-plan c =
    let fs = trees_of c.args.codes.now.items in
    let w = c.args.w in
    let old = c.args.store.now in
    let mid = c.make.new.store in
    let scope = c.args.e.scope in
    let i = scope_number w old.cells scope in
    let g : Fun = fun_at (forest_at fs c.args.e.code) c.args.inner in
    let first = c.make.ensures.kept fs (c.requires.code, c.requires.fun) in
    let node = c.fun-node.result.now in
    let t = trees c.tree_at-tree.result.now in
    let named : fun_name g ≡ option_to_list node.name =
    ap (λ (f : Forest). fun_name (fun_at f c.args.inner)) (sym c.tree_at-tree.ensures) ∙ name_is t node (fun_names (fun_at t c.args.inner)) (fun_at t c.args.inner) c.fun-node.ensures.same in
    let v = seen w mid.cells (value.Ref c.in-Cell.id) in
    λ r k.
    let kk : Value → State → Plan = λ u t. k (with_variable t i (fun_name g) u) in
    named_then fs r w old mid c.set_name.new.store scope g node.name v k c.requires.scope first.grows named
    (c.in_ok-cause.ensures.plan fs r kk ∙ ap (λ m. made_plan w mid.cells m kk (image fs r w mid)) c.in-Cell.is)
    (c.set_name.ensures.plan fs r (first.confined c.requires.confined))

pub returns-in-Cell-clause-names : goal.returns-in-Cell-clause-names
returns-in-Cell-clause-names c =
    let fs = trees_of c.args.codes.now.items in
    let w = c.args.w in
    let old = c.args.store.now in
    let mid = c.make.new.store in
    let scope = c.args.e.scope in
    let i = scope_number w old.cells scope in
    let g : Fun = fun_at (forest_at fs c.args.e.code) c.args.inner in
    let first = c.make.ensures.kept fs (c.requires.code, c.requires.fun) in
    let v = seen w mid.cells (value.Ref c.in-Cell.id) in
    let same = scopes_stay (new_function (without_name g) (Some i)) (image fs no_rest w old) (image fs no_rest w mid) v
    (λ k. c.in_ok-cause.ensures.plan fs no_rest k ∙ ap (λ m. made_plan w mid.cells m k (image fs no_rest w mid)) c.in-Cell.is) in
    let sure = first.confined c.requires.confined in
    λ x h. still_written fs w mid c.set_name.new.store scope (place_stays w old.cells mid.cells first.grows (Some scope) c.requires.scope) (c.set_name.ensures.kept fs sure).grows
    (option_to_list c.fun-node.result.now.name) v (c.set_name.ensures.plan fs no_rest sure) x
    (still_there fs w old mid scope c.requires.scope first.grows same x h)

pub returns-in-Cell-clause-kept : goal.returns-in-Cell-clause-kept
returns-in-Cell-clause-kept c =
    let fs = trees_of c.args.codes.now.items in
    let first = c.make.ensures.kept fs (c.requires.code, c.requires.fun) in
    kept_then fs c.args.w c.args.store.now c.make.new.store c.set_name.new.store first (c.set_name.ensures.kept fs (first.confined c.requires.confined))
