use Rattle.std.proofs.Common.{◌≡◌, ℕ, List, [], ◌∷◌, Some, length, map, subst, sym, ap, ◌∙◌}
use Rattle.std.specs.List.{IsDistinct}
use Rattle.std.specs.Str.{bytes_eq}
use Rattle.store_cells.specs.declared.value.Value.{Value}
use Rattle.widget_meaning.specs.OwnState.{Scope, State, with_new_scope}
use Rattle.widget_meaning.specs.Plan.{Plan}
use Rattle.widget_meaning.specs.Calls as calls
use Rattle.widget_meaning.specs.Costs.{pay, scope_cost}
use Rattle.js_image.specs.Image.{image}
use Rattle.js_image.specs.Plans.{scope_of, scope_plan}
use Rattle.js_flow.specs.declared.job.Block.TheVariants as block
use Rattle.js_flow.specs.Parts.{block_list, forest_at}
use Rattle.js_names.specs.Code.{trees_of}
use Rattle.js_statements.proofs.catching.in_catch.Goals as goal

pub returns-in_err-cause-clause-kept : goal.returns-in_err-cause-clause-kept
returns-in_err-cause-clause-kept c = c.make_scope.ensures.kept (trees_of c.args.codes.now.items)

pub returns-in-Stop-clause-kept : goal.returns-in-Stop-clause-kept
returns-in-Stop-clause-kept c = c.make_scope.ensures.kept (trees_of c.args.codes.now.items)

pub returns-in-Cell-clause-kept : goal.returns-in-Cell-clause-kept
returns-in-Cell-clause-kept c = c.make_scope.ensures.kept (trees_of c.args.codes.now.items)

pub returns-in-Stop-clause-plan : goal.returns-in-Stop-clause-plan
returns-in-Stop-clause-plan c =
    let fs = trees_of c.args.codes.now.items in
    let w = c.args.w in
    let old = c.args.store.now in
    let new = c.make_scope.new.store in
    let k : ℕ → State → Plan = λ i t. calls.statements (block_list (forest_at fs c.args.at.1.code) (block.Catch c.args.at.0)) (record { scope = Some i; depth = c.args.at.1.depth }) t in
    let e : c.in_ok-pairs.pairs.items ≡ c.args.caught ∷ [] = c.in_ok-pairs.ensures.items in
    rw c.stop.ensures (λ r. sym (ap (λ (d : Scope). pay (scope_cost d) (image fs r w old) (λ t. k (length t.own.scopes) (with_new_scope t d))) (ap (scope_of w old.cells c.args.at.1.scope) (sym e)) ∙ (c.in_ok-cause.ensures.plan fs r k ∙ ap (λ m. scope_plan w new.cells m k (image fs r w new)) c.in-Stop.is)))

pub returns-in-Cell-clause-plan : goal.returns-in-Cell-clause-plan
returns-in-Cell-clause-plan c =
    let fs = trees_of c.args.codes.now.items in
    let w = c.args.w in
    let old = c.args.store.now in
    let new = c.make_scope.new.store in
    let k : ℕ → State → Plan = λ i t. calls.statements (block_list (forest_at fs c.args.at.1.code) (block.Catch c.args.at.0)) (record { scope = Some i; depth = c.args.at.1.depth }) t in
    let e : c.in_ok-pairs.pairs.items ≡ c.args.caught ∷ [] = c.in_ok-pairs.ensures.items in
    rw c.run.ensures (λ r. sym (ap (λ (d : Scope). pay (scope_cost d) (image fs r w old) (λ t. k (length t.own.scopes) (with_new_scope t d))) (ap (scope_of w old.cells c.args.at.1.scope) (sym e)) ∙ (c.in_ok-cause.ensures.plan fs r k ∙ ap (λ m. scope_plan w new.cells m k (image fs r w new)) c.in-Cell.is)))

one : (x : List ℕ) → IsDistinct bytes_eq (x ∷ [])
unfolding IsDistinct
one x = (tt, tt)

pub make_scope-requires-clause-names : goal.make_scope-requires-clause-names
make_scope-requires-clause-names c =
    subst (λ (l : List (List ℕ × Value)). IsDistinct bytes_eq (map (λ p. p.0) l)) (sym c.in_ok-pairs.ensures.items) (one c.args.caught.0)
