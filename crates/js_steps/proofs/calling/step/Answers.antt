use Rattle.std.proofs.Common.{◌-◌, sym, ap, subst}
use Rattle.widget_meaning.specs.Plan.{Plan}
use Rattle.js_image.specs.Image.{image}
use Rattle.js_names.specs.Code.{trees_of}
use Rattle.js_flow.specs.Todo.{Moves, after_step, todo}
use Rattle.js_steps.proofs.Answering.{fine_as, follows_as, fuel_as, other_as}
use Rattle.js_steps.proofs.calling.step.Goals as goal

pub returns-clause-moves : goal.returns-clause-moves
returns-clause-moves c =
    let w = c.args.task.now.widget in
    let fs = trees_of c.args.codes.now.items in
    let old = c.args.store.now in
    let new = c.step_for.new.store in
    let was = c.args.task.now in
    let is = c.step_for.new.task in
    let e = c.answered.ensures in
    λ r. subst (λ (p : Plan). Moves (c.args.meter.now.left - c.step_for.new.meter.left) (image fs r w old) (todo fs w old.cells was.control was.frames.list.items (image fs r w old)) p)
    (sym (ap (λ q. after_step fs w new.cells q is.control is.frames.list.items (image fs r w new)) e)) (c.in_ok-step.ensures.moves r)

pub returns-clause-fuel : goal.returns-clause-fuel
returns-clause-fuel c = fuel_as c.answered.result _ c.answered.ensures _ c.in_ok-step.ensures.fuel

pub returns-clause-near : goal.returns-clause-near
returns-clause-near c = other_as c.answered.result _ c.answered.ensures _ c.in_ok-step.ensures.near

pub returns-clause-follows : goal.returns-clause-follows
returns-clause-follows c = follows_as c.answered.result _ c.answered.ensures _ c.in_ok-step.ensures.follows

pub returns-clause-held : goal.returns-clause-held
returns-clause-held c =
    let fs = trees_of c.args.codes.now.items in
    let held = c.in_ok-step.ensures.held in
    ((held.0, held.1, c.in_ok-step.ensures.call.0), fine_as c.answered.result _ c.answered.ensures fs c.args.task.now.widget c.step_for.new.store.cells held.2)
