use Rattle.std.proofs.Common.{ap, subst, ◌≡◌, List, ℕ}
use Rattle.host_io.specs.Sink.{with_bytes}
use Rattle.run_steps.specs.declared.ending.Status.TheVariants as status
use Rattle.adhost_run.specs.Answer.{ending}
use Rattle.adhost_run.proofs.Pieces.{whole_of, part_of}
use Rattle.adhost_run.proofs.writing.write_report.Goals as goal

pub returns-in-Ok-clause-written : goal.returns-in-Ok-clause-written
returns-in-Ok-clause-written g c =
    whole_of c.args.report.now.refused c.args.report.now.bytes.items (g.S.Sink.takes c.args.sink.now) (g.S.Sink.held c.args.sink.now) (g.S.Sink.held c.write_whole.new.sink) status.Refused (ap ending c.if-report.true)
    (subst (λ (b : List ℕ). g.S.Sink.held c.write_whole.new.sink ≡ with_bytes (g.S.Sink.held c.args.sink.now) b) c.deref.ensures.value c.in-Ok.ensures.whole)

pub returns-in-Ok-2-clause-written : goal.returns-in-Ok-2-clause-written
returns-in-Ok-2-clause-written g c =
    whole_of c.args.report.now.refused c.args.report.now.bytes.items (g.S.Sink.takes c.args.sink.now) (g.S.Sink.held c.args.sink.now) (g.S.Sink.held c.write_whole.new.sink) status.Ok (ap ending c.if-report.false)
    (subst (λ (b : List ℕ). g.S.Sink.held c.write_whole.new.sink ≡ with_bytes (g.S.Sink.held c.args.sink.now) b) c.deref.ensures.value c.in-Ok.ensures.whole)

pub returns-in-Err-clause-written : goal.returns-in-Err-clause-written
returns-in-Err-clause-written g c =
    part_of c.args.report.now.refused c.args.report.now.bytes.items c.deref.result.now (g.S.Sink.takes c.args.sink.now) (g.S.Sink.held c.args.sink.now) (g.S.Sink.held c.write_whole.new.sink) c.deref.ensures.value c.in-Err.ensures.part
    (λ fits. (let no = c.in-Err.ensures.room fits in cc))
