use Rattle.std.proofs.lemmas.Result.{err_from_is_err_and}
use Rattle.std.proofs.Common.{subst}
use Rattle.trace_reader.specs.Trace.{ReadsTrace}
use Rattle.run_steps.specs.Page.{trace_limit}
use Rattle.explain_run.specs.Page.{HasBytes, HasTrace}
use Rattle.explain_run.specs.Steps.{NoFile, NoTrace, long_trace, IsNoTrace, IsStopBy}
use Rattle.explain_run.proofs.Stepping.{ended, given, stopped}
use Rattle.explain_run.proofs.Shapes.{trace_status}
use Rattle.explain_run.proofs.steps.try_named.Goals as goal

pub returns-in_err-bytes : goal.returns-in_err-bytes
returns-in_err-bytes g c =
    let p = err_from_is_err_and c.from_residual.result c.from_residual.ensures.1 in
    rw (p.1, p.2) (ended g.F.Files.told g.F.Files.faults (λ m v. HasBytes m trace_limit c.args.name.now v.items) (λ m t. HasTrace m c.args.names.now c.args.name.now) (λ m. NoFile m trace_limit c.args.name.now) (λ m. NoTrace m c.args.names.now c.args.name.now) c.in_err-bytes.ensures.step (λ m s is. long_trace is))

pub returns-in_err-items : goal.returns-in_err-items
returns-in_err-items g c =
    let p = err_from_is_err_and c.from_residual-in_err-items.result c.from_residual-in_err-items.ensures.1 in
    let bytes = c.in_ok-bytes.bytes.items in
    rw (p.1, p.2) (stopped g.F.Files.told g.F.Files.faults (λ m v. HasBytes m trace_limit c.args.name.now v.items) (λ m t. HasTrace m c.args.names.now c.args.name.now) (λ m. NoFile m trace_limit c.args.name.now) (λ m. NoTrace m c.args.names.now c.args.name.now) c.in_ok-bytes.ensures.step c.in_err-items.field-0.0 (IsNoTrace bytes c.args.names.now)
    (subst (λ b. IsStopBy (IsNoTrace b c.args.names.now) c.in_err-items.field-0.0) c.deref.ensures.value c.in_err-items.ensures.stop) (λ m has s is. trace_status m c.args.names.now c.args.name.now bytes has s is) (λ never. never))

pub returns : goal.returns
returns g c =
    let bytes = c.in_ok-bytes.bytes.items in
    let items = c.in_ok-items.items.items in
    given g.F.Files.told g.F.Files.faults (λ m v. HasBytes m trace_limit c.args.name.now v.items) (λ m t. HasTrace m c.args.names.now c.args.name.now) (λ m. NoFile m trace_limit c.args.name.now) (λ m. NoTrace m c.args.names.now c.args.name.now) c.in_ok-bytes.ensures.step tt
    (λ m has. record { bytes = bytes; has = has; items = items; reads = subst (λ b. ReadsTrace b c.args.names.now items) c.deref.ensures.value c.in_ok-items.ensures.ok })
