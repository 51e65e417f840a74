use Rattle.std.proofs.Common.{sym, ap, ◌∙◌}
use Rattle.widget_meaning.specs.Meaning.{run_plan}
use Rattle.js_image.specs.Image.{image}
use Rattle.js_names.specs.Code.{trees_of}
use Rattle.js_flow.specs.Todo.{after_step}
use Rattle.js_steps.proofs.Answering.{fine_as, follows_as, fuel_as, over_as}
use Rattle.js_steps.proofs.calling.run.Goals as goal

pub returns-clause-meaning : goal.returns-clause-meaning
returns-clause-meaning c =
    let w = c.args.task.now.widget in
    let fs = trees_of c.args.codes.now.items in
    let new = c.run_for.new.store in
    let is = c.run_for.new.task in
    let e = c.answered.ensures in
    λ r. c.in_ok-step.ensures.meaning r
    ∙ sym (ap (λ q. run_plan c.run_for.new.meter.left (after_step fs w new.cells q is.control is.frames.list.items (image fs r w new))) e)

pub returns-clause-fuel : goal.returns-clause-fuel
returns-clause-fuel c = fuel_as c.answered.result _ c.answered.ensures _ c.in_ok-step.ensures.fuel

pub returns-clause-ends : goal.returns-clause-ends
returns-clause-ends c = over_as c.answered.result _ c.answered.ensures c.in_ok-step.ensures.ends

pub returns-clause-follows : goal.returns-clause-follows
returns-clause-follows c = follows_as c.answered.result _ c.answered.ensures _ c.in_ok-step.ensures.follows

pub returns-clause-held : goal.returns-clause-held
returns-clause-held c =
    let fs = trees_of c.args.codes.now.items in
    let held = c.in_ok-step.ensures.held in
    ((held.0, held.1, c.in_ok-step.ensures.call.0), fine_as c.answered.result _ c.answered.ensures fs c.args.task.now.widget c.run_for.new.store.cells held.2)
