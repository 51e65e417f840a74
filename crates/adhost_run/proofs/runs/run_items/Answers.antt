use Rattle.std.proofs.Common.{List, All, length, Err, Ok, sym, ap, subst, ◌∙◌}
use Rattle.std.proofs.lemmas.Result.{err_from_is_err_and}
use Rattle.slot_check.specs.declared.sources.SourceFile.{SourceFile}
use Rattle.slot_check.specs.Verdicts.{sources_of, IsSmall}
use Rattle.trace_reader.specs.declared.item.TraceItem.{TraceItem}
use Rattle.run_steps.specs.Ends.{Stepped}
use Rattle.run_steps.specs.Page.{file_limit, AreRead, swap_files}
use Rattle.run_steps.specs.Reading.{ComesThrough}
use Rattle.run_steps.specs.Steps.{NoFiles}
use Rattle.adhost_run.specs.Answer.{PlayAnswer}
use Rattle.adhost_run.specs.Ran.{IsRan}
use Rattle.adhost_run.specs.Stage.{IsStageOf}
use Rattle.adhost_run.proofs.Staging.{left_on}
use Rattle.adhost_run.proofs.Stepping.{stopped, went_on, no_memory_left}
use Rattle.adhost_run.proofs.Plays.{ran_answered, ran_left}
use Rattle.adhost_run.proofs.runs.run_items.Goals as goal

pub returns-in_err-swaps-clause-answered : goal.returns-in_err-swaps-clause-answered
returns-in_err-swaps-clause-answered g c =
    let p = err_from_is_err_and c.from_residual.result c.from_residual.ensures.1 in
    let x = c.args.manifest in
    let sources = sources_of c.args.sources.now in
    let items = c.args.items.items in
    rw (p.1, p.2) (stopped g.F.Files.told g.F.Files.calm g.F.Files.faults (λ v. sources_of v.items) (λ m v. AreRead m file_limit (swap_files items) v) (λ m. NoFiles m (swap_files items)) (λ m. PlayAnswer c.args.way.writes x sources items) (λ m. ComesThrough m file_limit (swap_files items)) (λ m. ComesThrough m file_limit (swap_files items))
    (subst (λ (is : List TraceItem). Stepped g.F.Files.told g.F.Files.calm g.F.Files.faults c.args.files.now c.swaps_of.new.files (Err c.in_err-swaps.field-0.0) (λ m v. AreRead m file_limit (swap_files is) (sources_of v.items)) (λ m. NoFiles m (swap_files is)) (λ m. ComesThrough m file_limit (swap_files is))) c.deref.ensures.value c.in_err-swaps.ensures.step) (λ m has. has))

pub returns-in_err-ran-clause-answered : goal.returns-in_err-ran-clause-answered
returns-in_err-ran-clause-answered g c =
    let p = err_from_is_err_and c.from_residual-in_err-ran.result c.from_residual-in_err-ran.ensures.1 in
    let x = c.args.manifest in
    let sources = sources_of c.args.sources.now in
    let items = c.args.items.items in
    rw (p.1, p.2) (went_on g.F.Files.told g.F.Files.calm g.F.Files.faults (λ v. sources_of v.items) (λ m v. AreRead m file_limit (swap_files items) v) (λ m. NoFiles m (swap_files items)) (λ m. PlayAnswer c.args.way.writes x sources items) (λ m. ComesThrough m file_limit (swap_files items)) (λ m. ComesThrough m file_limit (swap_files items)) (λ m. Unit {0})
    (subst (λ (is : List TraceItem). Stepped g.F.Files.told g.F.Files.calm g.F.Files.faults c.args.files.now c.swaps_of.new.files (Ok c.in_ok-swaps.swaps) (λ m v. AreRead m file_limit (swap_files is) (sources_of v.items)) (λ m. NoFiles m (swap_files is)) (λ m. ComesThrough m file_limit (swap_files is))) c.deref.ensures.value c.in_ok-swaps.ensures.step)
    (no_memory_left g.F.Files.told g.F.Files.calm g.F.Files.faults (λ m. PlayAnswer c.args.way.writes x sources items (sources_of c.in_ok-swaps.swaps.items)) (λ m. Unit {0})) (λ m has. has) (λ m given has. tt))

pub returns-clause-answered : goal.returns-clause-answered
returns-clause-answered g c =
    let x = c.args.manifest in
    let sources = sources_of c.args.sources.now in
    let items = c.args.items.items in
    let what = c.args.way.writes in
    went_on g.F.Files.told g.F.Files.calm g.F.Files.faults (λ v. sources_of v.items) (λ m v. AreRead m file_limit (swap_files items) v) (λ m. NoFiles m (swap_files items)) (λ m. PlayAnswer what x sources items) (λ m. ComesThrough m file_limit (swap_files items)) (λ m. ComesThrough m file_limit (swap_files items)) (λ m. Unit {0})
    (subst (λ (is : List TraceItem). Stepped g.F.Files.told g.F.Files.calm g.F.Files.faults c.args.files.now c.swaps_of.new.files (Ok c.in_ok-swaps.swaps) (λ m v. AreRead m file_limit (swap_files is) (sources_of v.items)) (λ m. NoFiles m (swap_files is)) (λ m. ComesThrough m file_limit (swap_files is))) c.deref.ensures.value c.in_ok-swaps.ensures.step)
    (ran_answered g.F.Files.told g.F.Files.calm g.F.Files.faults x sources items (sources_of c.in_ok-swaps.swaps.items) c.args.way.slice c.in_ok-ran.ran (subst (λ (ss : List SourceFile). IsRan x sources items (sources_of ss) c.args.way.slice c.in_ok-ran.ran) c.deref-2.ensures.value c.in_ok-ran.ensures) what c.report_ran.result c.report_ran.ensures.answer c.report_ran.ensures.stop) (λ m has. has) (λ m given has. tt)

pub returns-clause-left : goal.returns-clause-left
returns-clause-left g c =
    let x = c.args.manifest in
    let sources = sources_of c.args.sources.now in
    let items = c.args.items.items in
    let told = g.F.Files.told c.args.files.now in
    let now = g.F.Files.told c.swaps_of.new.files in
    let files = sources_of c.in_ok-swaps.swaps.items in
    let slice = c.args.way.slice in
    let ran = c.in_ok-ran.ran in
    let step = subst (λ (is : List TraceItem). Stepped g.F.Files.told g.F.Files.calm g.F.Files.faults c.args.files.now c.swaps_of.new.files (Ok c.in_ok-swaps.swaps) (λ m v. AreRead m file_limit (swap_files is) (sources_of v.items)) (λ m. NoFiles m (swap_files is)) (λ m. ComesThrough m file_limit (swap_files is))) c.deref.ensures.value c.in_ok-swaps.ensures.step in
    left_on (λ m v. AreRead m file_limit (swap_files items) v) (λ m v. IsStageOf slice x sources items v) files told now c.report_ran.result step.reads.same step.gives
    (ran_left now x sources items files slice ran (subst (λ (ss : List SourceFile). IsRan x sources items (sources_of ss) slice ran) c.deref-2.ensures.value c.in_ok-ran.ensures) c.report_ran.result c.report_ran.ensures.host)

pub returns-clause-confined : goal.returns-clause-confined
returns-clause-confined g c = c.report_ran.ensures.confined

pub play_page-requires-clause-swapped : goal.play_page-requires-clause-swapped
play_page-requires-clause-swapped g c = ap length c.deref-2.ensures.value ∙ c.in_ok-swaps.ensures.many ∙ ap (λ (is : List TraceItem). length (swap_files is)) c.deref.ensures.value

pub play_page-requires-clause-small_swaps : goal.play_page-requires-clause-small_swaps
play_page-requires-clause-small_swaps g c = subst (All IsSmall) (sym c.deref-2.ensures.value) c.in_ok-swaps.ensures.small

pub report_ran-requires : goal.report_ran-requires
report_ran-requires g c = record { manifest = c.args.manifest; sources = sources_of c.args.sources.now; items = c.args.items.items; files = sources_of c.deref-2.result.now; slice = c.args.way.slice; is = c.in_ok-ran.ensures }
