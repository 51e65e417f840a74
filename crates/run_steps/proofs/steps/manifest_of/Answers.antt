use Rattle.std.proofs.Common.{sym, subst}
use Rattle.run_steps.specs.Steps.{IsManifestStop}
use Rattle.run_steps.proofs.Gotten.{bad_manifest_bytes}
use Rattle.run_steps.proofs.steps.manifest_of.Goals as goal

pub returns-in-Err-clause-stop : goal.returns-in-Err-clause-stop
returns-in-Err-clause-stop c = subst (IsManifestStop c.args.bytes.now) (sym c.manifest_stop_of.ensures) (bad_manifest_bytes c.args.bytes.now c.in-Err.fault c.in-Err.ensures.err)
