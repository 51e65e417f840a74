use Rattle.run_cases.specs.Ready.{IsReady}
use Rattle.run_cases.proofs.calls.are_answered.Given as goal

abbrev pub invariant-calls : goal.invariant-calls
invariant-calls l = IsReady l.hosted
