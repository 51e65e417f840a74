use Rattle.std.proofs.Common.{[], sym, ◌∙◌}
use Rattle.reach_cert.specs.declared.fault.CertFault.TheVariants as fault
use Rattle.reach_cert.specs.Machine.{Start, Between, Over, Refuses}
use Rattle.reach_cert.specs.Shape.{lines_of}
use Rattle.reach_cert.proofs.Judged.{whole_leak}
use Rattle.reach_cert.proofs.Steps.{ahead, head_refused, head_read, carried, if_err, over_stopped, over_read}
use Rattle.reach_cert.proofs.judging.judge_all.Goals as goal

pub returns-then-not-text_is-clause-fault : goal.returns-then-not-text_is-clause-fault
returns-then-not-text_is-clause-fault c = head_refused c.new-lines.result _ c.fault.result c.new-lines.ensures c.fault.ensures (sym c.text_is.ensures ∙ c.if-not-text_is.true)

pub returns-in_err-leak-clause-fault : goal.returns-in_err-leak-clause-fault
returns-in_err-leak-clause-fault c =
    let start = ahead 1 (lines_of c.args.bytes.now) in
    let head = head_read c.new-lines.result start c.advance.new.self c.new-lines.ensures (sym c.text_is.ensures ∙ c.if-not-text_is.false) c.advance.ensures in
    if_err c.from_residual.result _ (Refuses Start start) c.from_residual.ensures.1 (carried Start (Between []) start c.advance.new.self head.read _ head.later c.in_err-leak.ensures.fault)

pub returns-then-not-is_empty-clause-fault : goal.returns-then-not-is_empty-clause-fault
returns-then-not-is_empty-clause-fault c =
    let start = ahead 1 (lines_of c.args.bytes.now) in
    let told = c.in_ok-leak.ensures.read in
    let end = c.judge_blocks.new.lines in
    let head = head_read c.new-lines.result start c.advance.new.self c.new-lines.ensures (sym c.text_is.ensures ∙ c.if-not-text_is.false) c.advance.ensures in
    rw c.fault-then-not-is_empty.ensures
    (carried Start (Between []) start c.advance.new.self head.read (fault.BadCert end.number) head.later
    (carried (Between []) (Over told.0) c.advance.new.self end told.2 (fault.BadCert end.number) c.in_ok-leak.ensures.later
    (over_stopped told.0 end.number end.lines (sym c.if-not-is_empty.true ∙ c.is_empty.ensures))))

pub returns-clause-read : goal.returns-clause-read
returns-clause-read c =
    let start = ahead 1 (lines_of c.args.bytes.now) in
    let told = c.in_ok-leak.ensures.read in
    let head = head_read c.new-lines.result start c.advance.new.self c.new-lines.ensures (sym c.text_is.ensures ∙ c.if-not-text_is.false) c.advance.ensures in
    (told.0, whole_leak told.0 c.advance.new.self.number _ head.place told.1, head.read ∙ told.2 ∙ over_read told.0 c.judge_blocks.new.lines.lines (sym c.if-not-is_empty.false ∙ c.is_empty.ensures))
