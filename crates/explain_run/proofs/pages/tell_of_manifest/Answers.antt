use Rattle.std.proofs.lemmas.Result.{err_from_is_err_and}
use Rattle.std.proofs.Common.{option_copied, length, All, ap, sym, subst, ◌∙◌}
use Rattle.slot_check.specs.Verdicts.{sources_of, IsSmall}
use Rattle.run_steps.specs.Page.{file_limit, slot_names, files_named}
use Rattle.explain_run.specs.Page.{AreRead}
use Rattle.explain_run.specs.Steps.{NoFiles, NoTraced}
use Rattle.explain_run.specs.Answer.{OfSources, OfManifest, NoSources, no_files, no_trace}
use Rattle.explain_run.proofs.Stepping.{ended, went_on}
use Rattle.explain_run.proofs.pages.tell_of_manifest.Goals as goal

pub returns-in_err-sources : goal.returns-in_err-sources
returns-in_err-sources g c =
    let p = err_from_is_err_and c.from_residual.result c.from_residual.ensures.1 in
    rw (p.1, p.2) (ended g.F.Files.told g.F.Files.faults (λ m v. AreRead m file_limit (files_named c.args.manifest.now) (sources_of v.items)) (λ m t. OfManifest m (option_copied c.args.trace) c.args.manifest.now t.refused t.bytes.items) (λ m. NoFiles m (files_named c.args.manifest.now)) (λ m. NoSources m (option_copied c.args.trace) c.args.manifest.now) c.in_err-sources.ensures.step (λ m s is. no_files is))

pub tell_of_sources-requires-clause-many : goal.tell_of_sources-requires-clause-many
tell_of_sources-requires-clause-many g c = ap length c.deref.ensures.value ∙ c.in_ok-sources.ensures.many

pub tell_of_sources-requires-clause-small : goal.tell_of_sources-requires-clause-small
tell_of_sources-requires-clause-small g c = subst (All IsSmall) (sym c.deref.ensures.value) c.in_ok-sources.ensures.small

pub returns : goal.returns
returns g c =
    let sources = sources_of c.in_ok-sources.sources.items in
    let shown = sources_of c.deref.result.now in
    let same = ap sources_of c.deref.ensures.value in
    went_on g.F.Files.told g.F.Files.faults (λ m v. AreRead m file_limit (files_named c.args.manifest.now) (sources_of v.items)) (λ m t. OfManifest m (option_copied c.args.trace) c.args.manifest.now t.refused t.bytes.items) (λ m. NoFiles m (files_named c.args.manifest.now)) (λ m. NoSources m (option_copied c.args.trace) c.args.manifest.now) c.in_ok-sources.ensures.step c.tell_of_sources.result (λ m t. OfSources m (option_copied c.args.trace) c.args.manifest.now shown t.refused t.bytes.items) (λ m. NoTraced m (slot_names c.args.manifest.now.entries.items) (option_copied c.args.trace)) c.tell_of_sources.ensures
    (λ m has t is. record { sources = sources; read = has; rest = subst (λ s. OfSources m (option_copied c.args.trace) c.args.manifest.now s t.refused t.bytes.items) same is }) (λ m has s is. no_trace has is)
