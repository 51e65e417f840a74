use Rattle.std.proofs.Common.{◌∙◌, sym}
use Rattle.turn_steps.proofs.Stepped.{same_task}
use Rattle.turn_steps.proofs.moving.take_task.Goals as goal

pub returns : goal.returns
returns c = λ t e. same_task c.args.place.now c.in-Runs.task t (sym c.take.ensures ∙ c.in-Runs.is) e
