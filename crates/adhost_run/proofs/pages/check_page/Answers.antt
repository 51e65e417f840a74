use Rattle.std.proofs.Common.{IsSome}
use Rattle.std.proofs.lemmas.Result.{err_from_is_err_and}
use Rattle.run_steps.specs.Page.{file_limit, files_named, HasManifest}
use Rattle.run_steps.specs.Reading.{ComesThrough, HasPageFiles}
use Rattle.run_steps.specs.Steps.{NoManifest}
use Rattle.adhost_run.specs.Answer.{OfFiles, CheckAnswer}
use Rattle.adhost_run.proofs.Stepping.{stopped, went_on}
use Rattle.adhost_run.proofs.pages.check_page.Goals as goal

pub returns-in_err-manifest-clause-answered : goal.returns-in_err-manifest-clause-answered
returns-in_err-manifest-clause-answered g c =
    let p = err_from_is_err_and c.from_residual.result c.from_residual.ensures.1 in
    let name = c.args.name.now in
    rw (p.1, p.2) (stopped g.F.Files.told g.F.Files.calm g.F.Files.faults (λ x. x) (λ m x. HasManifest m name x) (λ m. NoManifest m name) (λ m x. OfFiles m x (CheckAnswer x)) (λ m. IsSome (m name)) (λ m. HasPageFiles m name) c.in_err-manifest.ensures.step (λ m has. has.manifest))

pub returns-clause-answered : goal.returns-clause-answered
returns-clause-answered g c =
    let name = c.args.name.now in
    went_on g.F.Files.told g.F.Files.calm g.F.Files.faults (λ x. x) (λ m x. HasManifest m name x) (λ m. NoManifest m name) (λ m x. OfFiles m x (CheckAnswer x)) (λ m. IsSome (m name)) (λ m. HasPageFiles m name) (λ m. ComesThrough m file_limit (files_named c.in_ok-manifest.manifest))
    c.in_ok-manifest.ensures.step c.check_manifest.ensures.answered (λ m has. has.manifest) (λ m given has. has.named c.in_ok-manifest.manifest given)
