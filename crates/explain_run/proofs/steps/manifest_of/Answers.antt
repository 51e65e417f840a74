use Rattle.explain_run.proofs.Shapes.{no_manifest}
use Rattle.explain_run.proofs.steps.manifest_of.Goals as goal

pub returns-in-Err-clause-stop : goal.returns-in-Err-clause-stop
returns-in-Err-clause-stop c = no_manifest c.args.bytes.now c.in-Err.fault c.misshapen.result c.in-Err.ensures.err c.misshapen.ensures
