use Rattle.std.proofs.lemmas.Result.{err_from_is_err_and}
use Rattle.run_steps.specs.Page.{trace_limit, HasTrace}
use Rattle.run_steps.specs.Steps.{NoTrace}
use Rattle.run_steps.proofs.Gotten.{none_read, long_trace_of, trace_step, ok_for}
use Rattle.run_steps.proofs.steps.trace_in.Goals as goal

pub returns-in_err-bytes-clause-step : goal.returns-in_err-bytes-clause-step
returns-in_err-bytes-clause-step g c =
    let p = err_from_is_err_and c.from_residual.result c.from_residual.ensures.1 in
    rw (p.1, p.2) (none_read g.F.Files.told g.F.Files.calm g.F.Files.faults (λ m v. HasTrace m c.args.names.now c.args.name.now v.items) (λ m. NoTrace m c.args.names.now c.args.name.now) c.args.name.now trace_limit (long_trace_of c.args.names.now c.args.name.now) c.in_err-bytes.ensures.stops c.in_err-bytes.ensures.large c.in_err-bytes.ensures.reads)

pub returns-clause-step : goal.returns-clause-step
returns-clause-step g c = trace_step g.F.Files.told g.F.Files.calm g.F.Files.faults c.args.names.now c.args.name.now c.in_ok-bytes.bytes.items c.deref.result.now c.trace_of.result c.in_ok-bytes.ensures.reads c.in_ok-bytes.ensures.ok c.in_ok-bytes.ensures.within c.deref.ensures.value c.trace_of.ensures.ok c.trace_of.ensures.stop

pub returns-clause-items : goal.returns-clause-items
returns-clause-items g c = ok_for c.deref.result.now c.args.names.now c.trace_of.result c.trace_of.ensures.ok
