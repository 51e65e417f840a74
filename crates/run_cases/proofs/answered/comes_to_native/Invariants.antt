use Rattle.js_flow.specs.Todo.{IsGoing}
use Rattle.run_cases.specs.Running.{IsReady}
use Rattle.run_cases.proofs.answered.comes_to_native.Given as goal

abbrev pub invariant-steps : goal.invariant-steps
invariant-steps l = IsGoing l.task.control × IsReady l.codes.items l.store l.task
