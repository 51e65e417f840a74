use Rattle.std.proofs.Common.{List, None, subst}
use Rattle.std.proofs.lemmas.Result.{err_from_is_err_and}
use Rattle.slot_check.specs.declared.sources.SourceFile.{SourceFile}
use Rattle.slot_check.specs.Verdicts.{sources_of}
use Rattle.slot_check.specs.Line.{AreSlotLines}
use Rattle.run_steps.specs.Page.{file_limit, AreRead, files_named, slots_of}
use Rattle.run_steps.specs.Reading.{ComesThrough}
use Rattle.run_steps.specs.Steps.{NoFiles}
use Rattle.adhost_run.specs.Answer.{CheckAnswer, lines}
use Rattle.adhost_run.proofs.Stepping.{stopped, went_on, no_memory_left, reported}
use Rattle.adhost_run.proofs.pages.check_manifest.Goals as goal

pub returns-in_err-sources-clause-answered : goal.returns-in_err-sources-clause-answered
returns-in_err-sources-clause-answered g c =
    let p = err_from_is_err_and c.from_residual.result c.from_residual.ensures.1 in
    let x = c.args.manifest.now in
    rw (p.1, p.2) (stopped g.F.Files.told g.F.Files.calm g.F.Files.faults (λ v. sources_of v.items) (λ m v. AreRead m file_limit (files_named x) v) (λ m. NoFiles m (files_named x)) (λ m. CheckAnswer x) (λ m. ComesThrough m file_limit (files_named x)) (λ m. ComesThrough m file_limit (files_named x)) c.in_err-sources.ensures.step (λ m has. has))

pub returns-in_err-text-clause-answered : goal.returns-in_err-text-clause-answered
returns-in_err-text-clause-answered g c =
    let p = err_from_is_err_and c.from_residual-in_err-text.result c.from_residual-in_err-text.ensures.1 in
    let x = c.args.manifest.now in
    rw (p.1, p.2) (went_on g.F.Files.told g.F.Files.calm g.F.Files.faults (λ v. sources_of v.items) (λ m v. AreRead m file_limit (files_named x) v) (λ m. NoFiles m (files_named x)) (λ m. CheckAnswer x) (λ m. ComesThrough m file_limit (files_named x)) (λ m. ComesThrough m file_limit (files_named x)) (λ m. Unit {0}) c.in_ok-sources.ensures.step
    (no_memory_left g.F.Files.told g.F.Files.calm g.F.Files.faults (λ m. CheckAnswer x (sources_of c.in_ok-sources.sources.items)) (λ m. Unit {0})) (λ m has. has) (λ m given has. tt))

pub returns-clause-answered : goal.returns-clause-answered
returns-clause-answered g c =
    let x = c.args.manifest.now in
    let sources = c.in_ok-sources.sources.items in
    went_on g.F.Files.told g.F.Files.calm g.F.Files.faults (λ v. sources_of v.items) (λ m v. AreRead m file_limit (files_named x) v) (λ m. NoFiles m (files_named x)) (λ m. CheckAnswer x) (λ m. ComesThrough m file_limit (files_named x)) (λ m. ComesThrough m file_limit (files_named x)) (λ m. Unit {0}) c.in_ok-sources.ensures.step
    (reported g.F.Files.told g.F.Files.calm g.F.Files.faults (record { refused = c.in_ok-text.text.refused; bytes = c.in_ok-text.text.bytes; host = None }) (λ m. CheckAnswer x (sources_of sources)) (λ m. Unit {0})
    (λ m. lines c.in_ok-text.text.refused (subst (λ (s : List SourceFile). AreSlotLines (slots_of x (sources_of s)) c.in_ok-text.text.refused c.in_ok-text.text.bytes.items) c.deref.ensures.value c.in_ok-text.ensures)))
    (λ m has. has) (λ m given has. tt)
