use Rattle.std.proofs.lemmas.Result.{err_from_is_err_and}
use Rattle.std.proofs.Common.{ap, subst, ◌∙◌}
use Rattle.slot_check.specs.Verdicts.{sources_of}
use Rattle.run_steps.specs.Page.{texts, file_limit, files_named}
use Rattle.explain_run.specs.Page.{AreRead}
use Rattle.explain_run.specs.Steps.{NoFiles, Stepped}
use Rattle.explain_run.proofs.Stepping.{no_memory}
use Rattle.explain_run.proofs.Gathered.{many_files}
use Rattle.explain_run.proofs.steps.files_of.Goals as goal

pub returns-in_err-names-clause-step : goal.returns-in_err-names-clause-step
returns-in_err-names-clause-step g c =
    let p = err_from_is_err_and c.from_residual.result c.from_residual.ensures.1 in
    rw (p.1, p.2) (no_memory g.F.Files.told g.F.Files.faults (λ m v. AreRead m file_limit (files_named c.args.manifest.now) (sources_of v.items)) (λ m. NoFiles m (files_named c.args.manifest.now)))

pub returns-clause-step : goal.returns-clause-step
returns-clause-step g c =
    subst (λ ns. Stepped g.F.Files.told g.F.Files.faults c.args.files.now c.read_files.new.files c.read_files.result (λ m v. AreRead m file_limit ns (sources_of v.items)) (λ m. NoFiles m ns)) (ap texts c.deref.ensures.value ∙ c.in_ok-names.ensures) c.read_files.ensures.step

pub returns-clause-many : goal.returns-clause-many
returns-clause-many g c = many_files c.read_files.result c.deref.result.now (files_named c.args.manifest.now) (ap texts c.deref.ensures.value ∙ c.in_ok-names.ensures) c.read_files.ensures.many
