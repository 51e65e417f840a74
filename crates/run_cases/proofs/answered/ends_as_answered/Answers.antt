use Rattle.run_cases.proofs.Tasks.{new_function}
use Rattle.run_cases.proofs.answered.ends_as_answered.Goals as goal

pub call-requires-clause-function : goal.call-requires-clause-function
call-requires-clause-function c = new_function c.in_ok-code.code c.in_ok-code.fun c.in_ok-code.ensures c.in_ok-codes.codes.items c.in_ok-codes.ensures.items
