use Rattle.std.proofs.Common.{sym, ap, ◌∙◌, subst}
use Rattle.js_steps.specs.declared.task.Task.{Task}
use Rattle.js_steps.specs.Answered.{remaining}
use Rattle.turn_dispatch.specs.Held.{FineTask}
use Rattle.turn_dispatch.proofs.opening.call_function.Goals as goal

pub returns-clause-plan : goal.returns-clause-plan
returns-clause-plan c = λ fs s r. ap (λ (t : Task). remaining fs c.args.w.index s t r) c.in_ok-new.ensures.ok ∙ c.in_ok-task.ensures.plan fs c.args.w.index s r

pub returns-clause-fine : goal.returns-clause-fine
returns-clause-fine c = λ fs s p func args.
    let held = c.in_ok-task.ensures.held fs c.args.w.index s func args in
    subst (λ (t : Task). FineTask fs c.args.w.index s p t) (sym c.in_ok-new.ensures.ok)
    (record { widget = c.in_ok-task.ensures.widget; going = c.in_ok-task.ensures.going; control = held.0; frames = held.1; call = held.2 })
