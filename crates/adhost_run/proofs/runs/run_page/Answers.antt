use Rattle.std.proofs.Common.{IsSome, option_copied}
use Rattle.std.proofs.lemmas.Result.{err_from_is_err_and}
use Rattle.run_steps.specs.Page.{HasManifest}
use Rattle.run_steps.specs.Reading.{HasRunFiles, HasSources}
use Rattle.run_steps.specs.Steps.{NoManifest}
use Rattle.adhost_run.specs.Answer.{FromManifest}
use Rattle.adhost_run.specs.Stage.{LeftByManifest}
use Rattle.adhost_run.proofs.Staging.{left_on}
use Rattle.adhost_run.proofs.Stepping.{stopped, went_on}
use Rattle.adhost_run.proofs.runs.run_page.Goals as goal

pub run_manifest-requires-clause-fit : goal.run_manifest-requires-clause-fit
run_manifest-requires-clause-fit g c = let r = c.in_ok-manifest.ensures.reads in c.read_manifests_fit.ensures r.bytes c.in_ok-manifest.manifest r.reads

pub returns-in_err-manifest-clause-answered : goal.returns-in_err-manifest-clause-answered
returns-in_err-manifest-clause-answered g c =
    let p = err_from_is_err_and c.from_residual.result c.from_residual.ensures.1 in
    let name = c.args.name.now in
    let trace = option_copied c.args.trace in
    rw (p.1, p.2) (stopped g.F.Files.told g.F.Files.calm g.F.Files.faults (λ x. x) (λ m x. HasManifest m name x) (λ m. NoManifest m name) (λ m x. FromManifest m trace c.args.way.writes x) (λ m. IsSome (m name)) (λ m. HasRunFiles m name trace) c.in_err-manifest.ensures.step (λ m has. has.manifest))

pub returns-clause-answered : goal.returns-clause-answered
returns-clause-answered g c =
    let name = c.args.name.now in
    let trace = option_copied c.args.trace in
    went_on g.F.Files.told g.F.Files.calm g.F.Files.faults (λ x. x) (λ m x. HasManifest m name x) (λ m. NoManifest m name) (λ m x. FromManifest m trace c.args.way.writes x) (λ m. IsSome (m name)) (λ m. HasRunFiles m name trace) (λ m. HasSources m trace c.in_ok-manifest.manifest)
    c.in_ok-manifest.ensures.step c.run_manifest.ensures.answered (λ m has. has.manifest) (λ m given has. has.sources c.in_ok-manifest.manifest given)

pub returns-clause-left : goal.returns-clause-left
returns-clause-left g c =
    let name = c.args.name.now in
    let trace = option_copied c.args.trace in
    let step = c.in_ok-manifest.ensures.step in
    left_on (λ m x. HasManifest m name x) (λ m x. LeftByManifest m trace c.args.way.slice x) c.in_ok-manifest.manifest (g.F.Files.told c.args.files.now) (g.F.Files.told c.manifest_in.new.files) c.run_manifest.result step.reads.same step.gives c.run_manifest.ensures.left

pub returns-clause-confined : goal.returns-clause-confined
returns-clause-confined g c = c.run_manifest.ensures.confined
