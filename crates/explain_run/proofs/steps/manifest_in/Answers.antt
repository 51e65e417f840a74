use Rattle.std.proofs.lemmas.Result.{err_from_is_err_and}
use Rattle.manifest_reader.specs.Manifest.{ReadsManifest}
use Rattle.run_steps.specs.Page.{manifest_limit}
use Rattle.explain_run.specs.Page.{HasBytes, HasManifest}
use Rattle.explain_run.specs.Steps.{NoFile, NoManifest, long_manifest, IsNoManifest}
use Rattle.explain_run.proofs.Stepping.{ended, judged}
use Rattle.explain_run.proofs.Shapes.{manifest_status, shown_manifest, shown_no_manifest}
use Rattle.explain_run.proofs.Manifests.{ok_slots}
use Rattle.explain_run.proofs.steps.manifest_in.Goals as goal

pub returns-in_err-bytes-clause-step : goal.returns-in_err-bytes-clause-step
returns-in_err-bytes-clause-step g c =
    let p = err_from_is_err_and c.from_residual.result c.from_residual.ensures.1 in
    rw (p.1, p.2) (ended g.F.Files.told g.F.Files.faults (λ m v. HasBytes m manifest_limit c.args.name.now v.items) (λ m manifest. HasManifest m c.args.name.now manifest) (λ m. NoFile m manifest_limit c.args.name.now) (λ m. NoManifest m c.args.name.now) c.in_err-bytes.ensures.step (λ m s is. long_manifest is))

pub returns-clause-step : goal.returns-clause-step
returns-clause-step g c =
    let bytes = c.in_ok-bytes.bytes.items in
    judged g.F.Files.told g.F.Files.faults (λ m v. HasBytes m manifest_limit c.args.name.now v.items) (λ m manifest. HasManifest m c.args.name.now manifest) (λ m. NoFile m manifest_limit c.args.name.now) (λ m. NoManifest m c.args.name.now) c.in_ok-bytes.ensures.step c.manifest_of.result (ReadsManifest bytes) (IsNoManifest bytes)
    (shown_manifest c.deref.result.now bytes c.deref.ensures.value c.manifest_of.result c.manifest_of.ensures.ok) (shown_no_manifest c.deref.result.now bytes c.deref.ensures.value c.manifest_of.result c.manifest_of.ensures.stop)
    (λ m has manifest reads. record { bytes = bytes; has = has; reads = reads }) (λ m has s is. manifest_status m c.args.name.now bytes has s is) (λ never. never)

pub returns-clause-slots : goal.returns-clause-slots
returns-clause-slots g c = ok_slots c.deref.result.now c.manifest_of.result c.manifest_of.ensures.ok
