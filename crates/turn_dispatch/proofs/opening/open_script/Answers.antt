use Rattle.std.proofs.Common.{sym, ap, ◌∙◌, subst}
use Rattle.std.specs.Prelude.{None}
use Rattle.store_cells.specs.declared.value.Value.TheVariants as value
use Rattle.widget_meaning.specs.Plan as plan
use Rattle.widget_meaning.specs.Plan.{Do, and_then}
use Rattle.js_image.specs.declared.outcome.Made.{Made}
use Rattle.js_image.specs.Image.{all_seen, image, seen}
use Rattle.js_image.specs.Plans.{IsFineMade, made_plan}
use Rattle.js_flow.proofs.Stays.{all_fine, all_same}
use Rattle.turn_dispatch.specs.Levels.{levels_rest}
use Rattle.turn_dispatch.proofs.opening.open_script.Goals as goal

pub returns-in_ok-call_function-in-Cell-clause-plan : goal.returns-in_ok-call_function-in-Cell-clause-plan
returns-in_ok-call_function-in-Cell-clause-plan c = λ fs p r levels.
    let w = c.args.w.index in
    let old = c.args.store.now in
    let new = c.make.new.store in
    let k = levels_rest fs w new.cells p levels in
    c.in_ok-func.ensures.plan fs r (λ v t. Do (plan.Call v None (all_seen w old.cells c.args.args.now) 0) t k)
    ∙ (ap (λ (m : Made). made_plan w new.cells m (λ v t. Do (plan.Call v None (all_seen w old.cells c.args.args.now) 0) t k) (image fs r w new)) c.in-Cell.is
    ∙ ((λ j. Do (plan.Call (seen w new.cells (value.Ref c.in-Cell.func)) None (sym (all_same w old.cells new.cells (c.make.ensures.kept c.requires.script.0 c.requires.script.1).grows c.args.args.now c.requires.args) j) 0) (image fs r w new) k)
    ∙ sym (ap (λ q. and_then q k) (c.in_ok-call_function-in-Cell.ensures.plan fs new r))))

pub returns-in_ok-call_function-in-Cell-clause-fine : goal.returns-in_ok-call_function-in-Cell-clause-fine
returns-in_ok-call_function-in-Cell-clause-fine c = λ fs p.
    let w = c.args.w.index in
    let old = c.args.store.now in
    let new = c.make.new.store in
    c.in_ok-call_function-in-Cell.ensures.fine fs new p (subst (λ (m : Made). IsFineMade w new.cells m) c.in-Cell.is c.in_ok-func.ensures.fine)
    (all_fine w old.cells new.cells (c.make.ensures.kept c.requires.script.0 c.requires.script.1).grows c.args.args.now c.requires.args)

pub returns-in-Stop-clause-plan : goal.returns-in-Stop-clause-plan
returns-in-Stop-clause-plan c = λ fs p r levels.
    let w = c.args.w.index in
    let new = c.make.new.store in
    c.in_ok-func.ensures.plan fs r (λ v t. Do (plan.Call v None (all_seen w c.args.store.now.cells c.args.args.now) 0) t (levels_rest fs w new.cells p levels))
    ∙ ap (λ (m : Made). made_plan w new.cells m (λ v t. Do (plan.Call v None (all_seen w c.args.store.now.cells c.args.args.now) 0) t (levels_rest fs w new.cells p levels)) (image fs r w new)) c.in-Stop.is
