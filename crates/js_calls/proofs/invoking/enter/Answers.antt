use Rattle.std.proofs.Common.{suc, List, sym, subst, ap, ◌∙◌}
use Rattle.std.specs.Option.{option_map}
use Rattle.std.proofs.lemmas.Result.{IfOk-weaker}
use Rattle.store_cells.specs.declared.value.Value.{Value}
use Rattle.object_store.specs.Owned.{scope_number}
use Rattle.widget_meaning.specs.OwnState.{Function}
use Rattle.widget_meaning.specs.Calls.{enter}
use Rattle.js_image.specs.Image.{Rest, all_seen, function_in, image, seen}
use Rattle.js_names.specs.Code.{trees_of}
use Rattle.js_calls.specs.Called.{FineEntry, entry_plan}
use Rattle.js_calls.proofs.invoking.enter.Goals as goal

pub returns-in-Stop-clause-plan : goal.returns-in-Stop-clause-plan
returns-in-Stop-clause-plan c =
    let fs = trees_of c.args.codes.now.items in
    let w = c.args.w in
    let old = c.args.store.now in
    let new = c.entered.new.store in
    let p = c.args.parts in
    let whole = λ (r : Rest) (vs : List Value). enter (Function (function_in fs p.code p.fun p.declared) (option_map (scope_number w old.cells) p.scope)) (seen w old.cells c.args.call.func) (all_seen w old.cells vs) (suc c.args.call.depth) (image fs r w old) in
    rw c.stop.ensures (λ r. ap (λ e. entry_plan fs w new.cells p.fun e (image fs r w new)) (sym c.in-Stop.is) ∙ c.in_ok-cause.ensures.plan r ∙ ap (whole r) c.as_slice.ensures)

pub returns-clause-plan : goal.returns-clause-plan
returns-clause-plan c =
    let fs = trees_of c.args.codes.now.items in
    let w = c.args.w in
    let old = c.args.store.now in
    let new = c.entered.new.store in
    let p = c.args.parts in
    let whole = λ (r : Rest) (vs : List Value). enter (Function (function_in fs p.code p.fun p.declared) (option_map (scope_number w old.cells) p.scope)) (seen w old.cells c.args.call.func) (all_seen w old.cells vs) (suc c.args.call.depth) (image fs r w old) in
    IfOk-weaker c.push_run.result _ _
    (λ x q. rw q (λ r. ap (λ e. entry_plan fs w new.cells p.fun e (image fs r w new)) (sym c.in-Body.is) ∙ c.in_ok-cause.ensures.plan r ∙ ap (whole r) c.as_slice.ensures))
    c.push_run.ensures

pub returns-clause-fine : goal.returns-clause-fine
returns-clause-fine c =
    let fs = trees_of c.args.codes.now.items in
    IfOk-weaker c.push_run.result _ _
    (λ x q. rw q ((tt, tt), subst (FineEntry fs c.args.w c.entered.new.store.cells c.args.parts.fun) c.in-Body.is c.in_ok-cause.ensures.fine))
    c.push_run.ensures
