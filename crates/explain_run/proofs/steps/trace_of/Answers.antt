use Rattle.explain_run.proofs.Shapes.{no_trace}
use Rattle.explain_run.proofs.steps.trace_of.Goals as goal

pub returns-in-Err-clause-stop : goal.returns-in-Err-clause-stop
returns-in-Err-clause-stop c = no_trace c.args.bytes.now c.args.names.now c.in-Err.fault c.misshapen.result c.in-Err.ensures.err c.misshapen.ensures
