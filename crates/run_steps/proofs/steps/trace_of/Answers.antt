use Rattle.std.proofs.Common.{sym, subst}
use Rattle.run_steps.specs.Steps.{IsTraceStop}
use Rattle.run_steps.proofs.Gotten.{bad_trace_bytes}
use Rattle.run_steps.proofs.steps.trace_of.Goals as goal

pub returns-in-Err-clause-stop : goal.returns-in-Err-clause-stop
returns-in-Err-clause-stop c = subst (IsTraceStop c.args.bytes.now c.args.names.now) (sym c.trace_stop_of.ensures) (bad_trace_bytes c.args.bytes.now c.args.names.now c.in-Err.fault c.in-Err.ensures.err)
