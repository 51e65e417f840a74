use Rattle.std.proofs.lemmas.Result.{err_from_is_err_and}
use Rattle.std.proofs.Common.{option_copied}
use Rattle.explain_run.specs.Page.{HasManifest}
use Rattle.explain_run.specs.Steps.{NoManifest}
use Rattle.explain_run.specs.Answer.{OfManifest, OfPage, NoSources, NoPage, no_manifest, no_sources}
use Rattle.explain_run.proofs.Stepping.{ended, went_on}
use Rattle.explain_run.proofs.pages.tell_of_page.Goals as goal

pub returns-in_err-manifest : goal.returns-in_err-manifest
returns-in_err-manifest g c =
    let p = err_from_is_err_and c.from_residual.result c.from_residual.ensures.1 in
    rw (p.1, p.2) (ended g.F.Files.told g.F.Files.faults (λ m manifest. HasManifest m c.args.name.now manifest) (λ m t. OfPage m c.args.name.now (option_copied c.args.trace) t.refused t.bytes.items) (λ m. NoManifest m c.args.name.now) (λ m. NoPage m c.args.name.now (option_copied c.args.trace)) c.in_err-manifest.ensures.step (λ m s is. no_manifest is))

pub returns : goal.returns
returns g c =
    let manifest = c.in_ok-manifest.manifest in
    went_on g.F.Files.told g.F.Files.faults (λ m manifest. HasManifest m c.args.name.now manifest) (λ m t. OfPage m c.args.name.now (option_copied c.args.trace) t.refused t.bytes.items) (λ m. NoManifest m c.args.name.now) (λ m. NoPage m c.args.name.now (option_copied c.args.trace)) c.in_ok-manifest.ensures.step c.tell_of_manifest.result (λ m t. OfManifest m (option_copied c.args.trace) manifest t.refused t.bytes.items) (λ m. NoSources m (option_copied c.args.trace) manifest) c.tell_of_manifest.ensures
    (λ m has t is. record { manifest = manifest; has = has; rest = is }) (λ m has s is. no_sources has is)
