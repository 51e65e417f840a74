use Rattle.std.proofs.Common.{List, option_copied, subst}
use Rattle.std.proofs.lemmas.Result.{err_from_is_err_and}
use Rattle.slot_check.specs.declared.sources.SourceFile.{SourceFile}
use Rattle.slot_check.specs.Verdicts.{sources_of}
use Rattle.run_steps.specs.Page.{file_limit, AreRead, files_named, slot_names}
use Rattle.run_steps.specs.Reading.{ComesThrough, HasSources, HasTraceFiles}
use Rattle.run_steps.specs.Steps.{NoFiles}
use Rattle.adhost_run.specs.Answer.{FromFiles}
use Rattle.adhost_run.specs.Ends.{Answered}
use Rattle.adhost_run.specs.Stage.{LeftByFiles, IsLeft}
use Rattle.adhost_run.proofs.Staging.{left_on}
use Rattle.adhost_run.proofs.Stepping.{stopped, went_on}
use Rattle.adhost_run.proofs.runs.run_manifest.Goals as goal

pub returns-in_err-sources-clause-answered : goal.returns-in_err-sources-clause-answered
returns-in_err-sources-clause-answered g c =
    let p = err_from_is_err_and c.from_residual.result c.from_residual.ensures.1 in
    let x = c.args.manifest in
    let trace = option_copied c.args.trace in
    rw (p.1, p.2) (stopped g.F.Files.told g.F.Files.calm g.F.Files.faults (λ v. sources_of v.items) (λ m v. AreRead m file_limit (files_named x) v) (λ m. NoFiles m (files_named x)) (λ m. FromFiles m trace c.args.way.writes x) (λ m. ComesThrough m file_limit (files_named x)) (λ m. HasSources m trace x) c.in_err-sources.ensures.step (λ m has. has.named))

pub returns-clause-answered : goal.returns-clause-answered
returns-clause-answered g c =
    let x = c.args.manifest in
    let trace = option_copied c.args.trace in
    let sources = c.in_ok-sources.sources.items in
    let behind = subst (λ (s : List SourceFile). Answered g.F.Files.told g.F.Files.calm g.F.Files.faults c.files_of.new.files c.run_sources.new.files c.run_sources.result (λ m. FromFiles m trace c.args.way.writes x (sources_of s)) (λ m. HasTraceFiles m (slot_names x.entries.items) trace)) c.deref.ensures.value c.run_sources.ensures.answered in
    went_on g.F.Files.told g.F.Files.calm g.F.Files.faults (λ v. sources_of v.items) (λ m v. AreRead m file_limit (files_named x) v) (λ m. NoFiles m (files_named x)) (λ m. FromFiles m trace c.args.way.writes x) (λ m. ComesThrough m file_limit (files_named x)) (λ m. HasSources m trace x) (λ m. HasTraceFiles m (slot_names x.entries.items) trace) c.in_ok-sources.ensures.step
    behind (λ m has. has.named) (λ m given has. has.traced (sources_of sources) given)

pub returns-clause-left : goal.returns-clause-left
returns-clause-left g c =
    let x = c.args.manifest in
    let trace = option_copied c.args.trace in
    let now = g.F.Files.told c.files_of.new.files in
    let step = c.in_ok-sources.ensures.step in
    left_on (λ m v. AreRead m file_limit (files_named x) v) (λ m v. LeftByFiles m trace c.args.way.slice x v) (sources_of c.in_ok-sources.sources.items) (g.F.Files.told c.args.files.now) now c.run_sources.result step.reads.same step.gives
    (subst (λ (s : List SourceFile). IsLeft now c.run_sources.result (λ m. LeftByFiles m trace c.args.way.slice x (sources_of s))) c.deref.ensures.value c.run_sources.ensures.left)

pub returns-clause-confined : goal.returns-clause-confined
returns-clause-confined g c = c.run_sources.ensures.confined
