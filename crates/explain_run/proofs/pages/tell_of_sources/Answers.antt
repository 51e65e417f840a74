use Rattle.std.proofs.lemmas.Result.{err_from_is_err_and}
use Rattle.std.proofs.Common.{◌≡◌, Ok, Err, option_copied, length, ap, subst, ◌∙◌, arith}
use Rattle.slot_check.specs.Verdicts.{sources_of}
use Rattle.run_steps.specs.Page.{slot_names, slots_with}
use Rattle.explain_run.specs.Steps.{IsTraced, NoTraced, Stepped}
use Rattle.explain_run.specs.Text.{IsToldOfSlots}
use Rattle.explain_run.specs.Answer.{OfSources}
use Rattle.explain_run.proofs.Manifests.{few_slots, names_within}
use Rattle.explain_run.proofs.Stepping.{ended, given, no_memory, no_memory_left}
use Rattle.explain_run.proofs.pages.tell_of_sources.Goals as goal

pub returns-in_err-names : goal.returns-in_err-names
returns-in_err-names g c =
    let p = err_from_is_err_and c.from_residual.result c.from_residual.ensures.1 in
    rw (p.1, p.2) (no_memory g.F.Files.told g.F.Files.faults (λ m t. OfSources m (option_copied c.args.trace) c.args.manifest.now (sources_of c.args.sources.now) t.refused t.bytes.items) (λ m. NoTraced m (slot_names c.args.manifest.now.entries.items) (option_copied c.args.trace)))

pub try_trace-requires : goal.try_trace-requires
try_trace-requires g c =
    let same : c.deref-2.result.now ≡ slot_names c.args.manifest.now.entries.items = c.deref-2.ensures.value ∙ c.in_ok-names.ensures ∙ ap slot_names c.deref.ensures.value in
    omega (arith, ap length same, few_slots (slot_names c.args.manifest.now.entries.items) c.requires.slots)

pub returns-in_err-try_trace : goal.returns-in_err-try_trace
returns-in_err-try_trace g c =
    let p = err_from_is_err_and c.from_residual-in_err-try_trace.result c.from_residual-in_err-try_trace.ensures.1 in
    let same : c.deref-2.result.now ≡ slot_names c.args.manifest.now.entries.items = c.deref-2.ensures.value ∙ c.in_ok-names.ensures ∙ ap slot_names c.deref.ensures.value in
    rw (p.1, p.2) (ended g.F.Files.told g.F.Files.faults (λ m t. IsTraced m (slot_names c.args.manifest.now.entries.items) (option_copied c.args.trace)) (λ m t. OfSources m (option_copied c.args.trace) c.args.manifest.now (sources_of c.args.sources.now) t.refused t.bytes.items) (λ m. NoTraced m (slot_names c.args.manifest.now.entries.items) (option_copied c.args.trace)) (λ m. NoTraced m (slot_names c.args.manifest.now.entries.items) (option_copied c.args.trace)) (subst (λ ns. Stepped g.F.Files.told g.F.Files.faults c.args.files.now c.try_trace.new.files (Err c.in_err-try_trace.field-0.0) (λ m t. IsTraced m ns (option_copied c.args.trace)) (λ m. NoTraced m ns (option_copied c.args.trace))) same c.in_err-try_trace.ensures) (λ m s is. is))

pub tell_files-requires-clause-within : goal.tell_files-requires-clause-within
tell_files-requires-clause-within g c = names_within c.args.manifest.now c.deref-3.result.now (length c.args.sources.now) (c.deref-3.ensures.value ∙ c.in_ok-names.ensures ∙ ap slot_names c.deref.ensures.value) c.requires.many

pub returns-in_err-tell_files : goal.returns-in_err-tell_files
returns-in_err-tell_files g c =
    let p = err_from_is_err_and c.from_residual-in_err-tell_files.result c.from_residual-in_err-tell_files.ensures.1 in
    let same : c.deref-2.result.now ≡ slot_names c.args.manifest.now.entries.items = c.deref-2.ensures.value ∙ c.in_ok-names.ensures ∙ ap slot_names c.deref.ensures.value in
    rw (p.1, p.2) (no_memory_left g.F.Files.told g.F.Files.faults (λ m t. IsTraced m (slot_names c.args.manifest.now.entries.items) (option_copied c.args.trace)) (λ m t. OfSources m (option_copied c.args.trace) c.args.manifest.now (sources_of c.args.sources.now) t.refused t.bytes.items) (λ m. NoTraced m (slot_names c.args.manifest.now.entries.items) (option_copied c.args.trace)) (λ m. NoTraced m (slot_names c.args.manifest.now.entries.items) (option_copied c.args.trace)) (subst (λ ns. Stepped g.F.Files.told g.F.Files.faults c.args.files.now c.try_trace.new.files (Ok tt) (λ m t. IsTraced m ns (option_copied c.args.trace)) (λ m. NoTraced m ns (option_copied c.args.trace))) same c.in_ok-try_trace.ensures))

pub returns : goal.returns
returns g c =
    let t = c.in_ok-tell_files.field-0 in
    let also : c.deref-3.result.now ≡ slot_names c.args.manifest.now.entries.items = c.deref-3.ensures.value ∙ c.in_ok-names.ensures ∙ ap slot_names c.deref.ensures.value in
    let same : c.deref-2.result.now ≡ slot_names c.args.manifest.now.entries.items = c.deref-2.ensures.value ∙ c.in_ok-names.ensures ∙ ap slot_names c.deref.ensures.value in
    given g.F.Files.told g.F.Files.faults (λ m t. IsTraced m (slot_names c.args.manifest.now.entries.items) (option_copied c.args.trace)) (λ m t. OfSources m (option_copied c.args.trace) c.args.manifest.now (sources_of c.args.sources.now) t.refused t.bytes.items) (λ m. NoTraced m (slot_names c.args.manifest.now.entries.items) (option_copied c.args.trace)) (λ m. NoTraced m (slot_names c.args.manifest.now.entries.items) (option_copied c.args.trace)) (subst (λ ns. Stepped g.F.Files.told g.F.Files.faults c.args.files.now c.try_trace.new.files (Ok tt) (λ m t. IsTraced m ns (option_copied c.args.trace)) (λ m. NoTraced m ns (option_copied c.args.trace))) same c.in_ok-try_trace.ensures) t
    (λ m has. record { traced = has; told = subst (λ ns. IsToldOfSlots (slots_with ns (sources_of c.args.sources.now)) t.refused t.bytes.items) also c.in_ok-tell_files.ensures })
