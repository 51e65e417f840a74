use Rattle.std.proofs.Common.{sym, ap, ◌∙◌, subst}
use Rattle.turn_dispatch.specs.Task.{Task}
use Rattle.turn_dispatch.specs.Answered.{remaining}
use Rattle.turn_dispatch.specs.Held.{FineTask}
use Rattle.life_queue.proofs.works.call.Goals as goal

pub returns-clause-plan : goal.returns-clause-plan
returns-clause-plan c = λ fs s r. ap (λ (t : Task). remaining fs c.args.w s t r) c.in_ok-new.ensures.ok ∙ c.in_ok-task.ensures.plan fs c.args.w s r

pub returns-clause-fine : goal.returns-clause-fine
returns-clause-fine c = λ fs s p func.
    let held = c.in_ok-task.ensures.held fs c.args.w s func tt in
    subst (λ (t : Task). FineTask fs c.args.w s p t) (sym c.in_ok-new.ensures.ok)
    (record { widget = c.in_ok-task.ensures.widget; going = c.in_ok-task.ensures.going; control = held.0; frames = held.1; call = held.2 })
