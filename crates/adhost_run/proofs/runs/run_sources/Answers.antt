use Rattle.std.proofs.Common.{◌≡◌, length, map, option_copied, subst, ap, ◌∙◌, IfSome, Err, Ok, arith}
use Rattle.std.proofs.lemmas.Result.{err_from_is_err_and}
use Rattle.slot_check.specs.Verdicts.{sources_of}
use Rattle.trace_reader.specs.Said.{said}
use Rattle.run_steps.specs.Ends.{Stepped}
use Rattle.run_steps.specs.Items.{AreItems}
use Rattle.run_steps.specs.Page.{slot_names, file_limit, swap_files}
use Rattle.run_steps.specs.Reading.{ComesThrough, HasTraceFiles, IsTraceThere}
use Rattle.run_steps.specs.Steps.{HasItems, NoItems}
use Rattle.adhost_run.specs.Answer.{FromItems, FromFiles}
use Rattle.adhost_run.specs.Stage.{LeftByItems}
use Rattle.adhost_run.proofs.Paged.{few_fit}
use Rattle.adhost_run.proofs.Staging.{left_on}
use Rattle.adhost_run.proofs.Stepping.{stopped, went_on, no_memory_left}
use Rattle.adhost_run.proofs.runs.run_sources.Goals as goal

pub items_of-requires : goal.items_of-requires
items_of-requires g c =
    let same : c.deref-2.result.now ≡ slot_names c.args.manifest.entries.items = c.deref-2.ensures.value ∙ c.in_ok-names.ensures ∙ ap slot_names c.deref.ensures.value in
    omega (arith, ap length same, few_fit c.args.manifest c.requires.fit)

pub returns-in_err-names-clause-answered : goal.returns-in_err-names-clause-answered
returns-in_err-names-clause-answered g c =
    let p = err_from_is_err_and c.from_residual.result c.from_residual.ensures.1 in
    rw (p.1, p.2) (no_memory_left g.F.Files.told g.F.Files.calm g.F.Files.faults (λ m. FromFiles m (option_copied c.args.trace) c.args.way.writes c.args.manifest (sources_of c.args.sources.now)) (λ m. HasTraceFiles m (slot_names c.args.manifest.entries.items) (option_copied c.args.trace)))

pub returns-in_err-items-clause-answered : goal.returns-in_err-items-clause-answered
returns-in_err-items-clause-answered g c =
    let p = err_from_is_err_and c.from_residual-in_err-items.result c.from_residual-in_err-items.ensures.1 in
    let x = c.args.manifest in
    let trace = option_copied c.args.trace in
    let sources = sources_of c.args.sources.now in
    let names = slot_names x.entries.items in
    let same : c.deref-2.result.now ≡ names = c.deref-2.ensures.value ∙ c.in_ok-names.ensures ∙ ap slot_names c.deref.ensures.value in
    rw (p.1, p.2) (stopped g.F.Files.told g.F.Files.calm g.F.Files.faults (λ v. v.items) (λ m v. HasItems m names trace v) (λ m. NoItems m names trace) (λ m. FromItems m c.args.way.writes x sources) (λ m. IsTraceThere m trace) (λ m. HasTraceFiles m names trace)
    (subst (λ ns. Stepped g.F.Files.told g.F.Files.calm g.F.Files.faults c.args.files.now c.items_of.new.files (Err c.in_err-items.field-0.0) (λ m v. HasItems m ns trace v.items) (λ m. NoItems m ns trace) (λ m. IsTraceThere m trace)) same c.in_err-items.ensures.step) (λ m has. has.there))

pub run_items-requires-clause-items : goal.run_items-requires-clause-items
run_items-requires-clause-items g c = subst (λ ns. AreItems (length ns) (map said c.in_ok-items.items.items)) c.deref-2.ensures.value c.in_ok-items.ensures.items

pub run_items-requires-clause-named : goal.run_items-requires-clause-named
run_items-requires-clause-named g c = c.in_ok-names.ensures ∙ ap slot_names c.deref.ensures.value

pub returns-clause-answered : goal.returns-clause-answered
returns-clause-answered g c =
    let x = c.args.manifest in
    let trace = option_copied c.args.trace in
    let sources = sources_of c.args.sources.now in
    let names = slot_names x.entries.items in
    let items = c.in_ok-items.items.items in
    let same : c.deref-2.result.now ≡ names = c.deref-2.ensures.value ∙ c.in_ok-names.ensures ∙ ap slot_names c.deref.ensures.value in
    went_on g.F.Files.told g.F.Files.calm g.F.Files.faults (λ v. v.items) (λ m v. HasItems m names trace v) (λ m. NoItems m names trace) (λ m. FromItems m c.args.way.writes x sources) (λ m. IsTraceThere m trace) (λ m. HasTraceFiles m names trace) (λ m. ComesThrough m file_limit (swap_files items))
    (subst (λ ns. Stepped g.F.Files.told g.F.Files.calm g.F.Files.faults c.args.files.now c.items_of.new.files (Ok c.in_ok-items.items) (λ m v. HasItems m ns trace v.items) (λ m. NoItems m ns trace) (λ m. IsTraceThere m trace)) same c.in_ok-items.ensures.step)
    c.run_items.ensures.answered (λ m has. has.there) (λ m given has. has.swapped items given)

pub returns-clause-left : goal.returns-clause-left
returns-clause-left g c =
    let x = c.args.manifest in
    let trace = option_copied c.args.trace in
    let sources = sources_of c.args.sources.now in
    let names = slot_names x.entries.items in
    let items = c.in_ok-items.items.items in
    let told = g.F.Files.told c.args.files.now in
    let same : c.deref-2.result.now ≡ names = c.deref-2.ensures.value ∙ c.in_ok-names.ensures ∙ ap slot_names c.deref.ensures.value in
    let step = c.in_ok-items.ensures.step in
    left_on (λ m v. HasItems m names trace v) (λ m v. LeftByItems m c.args.way.slice x sources v) items told (g.F.Files.told c.items_of.new.files) c.run_items.result step.reads.same
    (subst (λ ns. IfSome told (λ m. HasItems m ns trace items)) same step.gives) c.run_items.ensures.left

pub returns-clause-confined : goal.returns-clause-confined
returns-clause-confined g c = c.run_items.ensures.confined
