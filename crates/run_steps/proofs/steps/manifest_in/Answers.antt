use Rattle.std.proofs.lemmas.Result.{err_from_is_err_and}
use Rattle.run_steps.specs.Page.{manifest_limit, HasManifest}
use Rattle.run_steps.specs.Steps.{NoManifest}
use Rattle.run_steps.proofs.Manifests.{ok_slots, ok_reads}
use Rattle.run_steps.proofs.Gotten.{none_read, long_manifest_of, manifest_step}
use Rattle.run_steps.proofs.steps.manifest_in.Goals as goal

pub returns-in_err-bytes-clause-step : goal.returns-in_err-bytes-clause-step
returns-in_err-bytes-clause-step g c =
    let p = err_from_is_err_and c.from_residual.result c.from_residual.ensures.1 in
    rw (p.1, p.2) (none_read g.F.Files.told g.F.Files.calm g.F.Files.faults (λ m manifest. HasManifest m c.args.name.now manifest) (λ m. NoManifest m c.args.name.now) c.args.name.now manifest_limit (long_manifest_of c.args.name.now) c.in_err-bytes.ensures.stops c.in_err-bytes.ensures.large c.in_err-bytes.ensures.reads)

pub returns-clause-step : goal.returns-clause-step
returns-clause-step g c = manifest_step g.F.Files.told g.F.Files.calm g.F.Files.faults c.args.name.now c.in_ok-bytes.bytes.items c.deref.result.now c.manifest_of.result c.in_ok-bytes.ensures.reads c.in_ok-bytes.ensures.ok c.in_ok-bytes.ensures.within c.deref.ensures.value c.manifest_of.ensures.ok c.manifest_of.ensures.stop

pub returns-clause-slots : goal.returns-clause-slots
returns-clause-slots g c = ok_slots c.deref.result.now c.manifest_of.result c.manifest_of.ensures.ok

pub returns-clause-reads : goal.returns-clause-reads
returns-clause-reads g c = ok_reads c.deref.result.now c.manifest_of.result c.manifest_of.ensures.ok
