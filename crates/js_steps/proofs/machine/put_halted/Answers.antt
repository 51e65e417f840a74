use Rattle.std.proofs.Common.{List, sym, subst}
use Rattle.widget_meaning.specs.Plan.{Plan}
use Rattle.plan_ends.specs.Ends.{ByValue, Yields}
use Rattle.js_image.specs.Image.{image}
use Rattle.js_flow.specs.declared.frame.Frame.{Frame}
use Rattle.js_steps.specs.Ending.{Awaits}
use Rattle.js_steps.proofs.Ending.{after_answer, if_native}
use Rattle.js_steps.proofs.Tolls.{answers_as}
use Rattle.js_steps.proofs.machine.put_halted.Goals as goal

pub returns-in_default-clause-answers : goal.returns-in_default-clause-answers
returns-in_default-clause-answers c = answers_as c.args.halt _ c.put-step.result c.requires.halted c.in_default.not-Short c.put-step.ensures.went c.put-step.ensures.over c.put-step.ensures.follows.1

pub returns-in_default-clause-call : goal.returns-in_default-clause-call
returns-in_default-clause-call c = λ fs w s h.
    let step = c.put-step.ensures in
    let is = c.put-step.new.task in
    after_answer fs w s c.put-step.result is.control is.frames.list.items step.follows.0 step.follows.1 step.light
    (if_native c.put-step.result _ _ (λ x. subst (λ (fr : List Frame). Awaits fs w s.cells ByValue fr) (sym x.1) (h.1 x.0)) step.native)
    (λ r. subst (λ (p : Plan). Yields ByValue p) (sym (step.plan fs w s.cells (image fs r w s))) (h.0 r))

pub returns-in-Short-clause-fine : goal.returns-in-Short-clause-fine
returns-in-Short-clause-fine c = λ fs w cells h.
    let p = c.put-step.ensures.fine fs w cells h in
    (p.0, p.1, tt)
