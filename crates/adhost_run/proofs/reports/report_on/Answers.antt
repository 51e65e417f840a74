use Rattle.std.proofs.Common.{None, Some, Ok, refl, ap, subst}
use Rattle.std.proofs.lemmas.Result.{err_from_is_err_and}
use Rattle.adhost_run.specs.declared.reports.Asked.TheVariants as asked
use Rattle.run_steps.specs.Request.{Check, CheckLib, Tidy, Render, Replay, Audit, CheckAudit, Demo, IsSliced, request_of}
use Rattle.run_steps.specs.Reading.{HasFilesFor, HasRunFiles}
use Rattle.adhost_run.specs.Answer.{ending, LibraryAnswer, PageAnswer, ReplayAnswer, CheckAuditAnswer, RequestAnswer}
use Rattle.adhost_run.specs.declared.playing.Way.{Way}
use Rattle.adhost_run.specs.declared.playing.Writes.TheVariants as writes
use Rattle.adhost_run.specs.Ends.{Answered}
use Rattle.adhost_run.specs.Stage.{IsDemoStage, IsLeft, LeftByPage}
use Rattle.adhost_run.proofs.Staging.{none_left, as_asked, left_here}
use Rattle.adhost_run.proofs.Stepping.{answered_as, no_memory_left, reported}
use Rattle.adhost_run.proofs.Reported.{page_in, line_in, tidied_in, render_in, replay_in, audit_in, certified_in, demo_in, needs_of, no_audit}
use Rattle.adhost_run.proofs.reports.report_on.Goals as goal

pub returns-in-Check-clause-answered : goal.returns-in-Check-clause-answered
returns-in-Check-clause-answered g c =
    let q = request_of c.args.request.now in
    let r = Check c.in-Check.manifest.now in
    answered_as g.F.Files.told g.F.Files.calm g.F.Files.faults (λ m. PageAnswer m c.in-Check.manifest.now) (λ m. RequestAnswer m q) (λ m. HasFilesFor m q) (λ m. HasFilesFor m r) c.check_page.ensures.answered (page_in q c.in-Check.manifest.now (ap request_of c.in-Check.is)) (needs_of q r (ap request_of c.in-Check.is))

pub returns-in-CheckLib-clause-answered : goal.returns-in-CheckLib-clause-answered
returns-in-CheckLib-clause-answered g c =
    let q = request_of c.args.request.now in
    let r = CheckLib c.in-CheckLib.file.now in
    answered_as g.F.Files.told g.F.Files.calm g.F.Files.faults (λ m. LibraryAnswer m asked.Line c.in-CheckLib.file.now) (λ m. RequestAnswer m q) (λ m. HasFilesFor m q) (λ m. HasFilesFor m r) c.report_library.ensures.answered (line_in q c.in-CheckLib.file.now (ap request_of c.in-CheckLib.is)) (needs_of q r (ap request_of c.in-CheckLib.is))

pub returns-in-Tidy-clause-answered : goal.returns-in-Tidy-clause-answered
returns-in-Tidy-clause-answered g c =
    let q = request_of c.args.request.now in
    let r = Tidy c.in-Tidy.file.now in
    answered_as g.F.Files.told g.F.Files.calm g.F.Files.faults (λ m. LibraryAnswer m asked.Tidied c.in-Tidy.file.now) (λ m. RequestAnswer m q) (λ m. HasFilesFor m q) (λ m. HasFilesFor m r) c.report_library-in-Tidy.ensures.answered (tidied_in q c.in-Tidy.file.now (ap request_of c.in-Tidy.is)) (needs_of q r (ap request_of c.in-Tidy.is))

pub returns-in-Render-clause-answered : goal.returns-in-Render-clause-answered
returns-in-Render-clause-answered g c =
    let q = request_of c.args.request.now in
    let r = Render c.in-Render.manifest.now in
    answered_as g.F.Files.told g.F.Files.calm g.F.Files.faults (λ m. ReplayAnswer m c.in-Render.manifest.now None writes.Report) (λ m. RequestAnswer m q) (λ m. HasFilesFor m q) (λ m. HasFilesFor m r) c.run_page.ensures.answered (render_in q c.in-Render.manifest.now (ap request_of c.in-Render.is)) (needs_of q r (ap request_of c.in-Render.is))

pub returns-in-Replay-clause-answered : goal.returns-in-Replay-clause-answered
returns-in-Replay-clause-answered g c =
    let q = request_of c.args.request.now in
    let r = Replay c.in-Replay.manifest.now c.in-Replay.trace.now c.in-Replay.slice in
    answered_as g.F.Files.told g.F.Files.calm g.F.Files.faults (λ m. ReplayAnswer m c.in-Replay.manifest.now (Some c.in-Replay.trace.now) writes.Report) (λ m. RequestAnswer m q) (λ m. HasFilesFor m q) (λ m. HasFilesFor m r)
    (subst (λ w. Answered g.F.Files.told g.F.Files.calm g.F.Files.faults c.args.files.now c.run_page-in-Replay.new.files c.run_page-in-Replay.result (λ m. ReplayAnswer m c.in-Replay.manifest.now (Some c.in-Replay.trace.now) w) (λ m. HasRunFiles m c.in-Replay.manifest.now (Some c.in-Replay.trace.now))) (ap (λ (w : Way). w.writes) c.reporting.ensures) c.run_page-in-Replay.ensures.answered)
    (replay_in q c.in-Replay.manifest.now c.in-Replay.trace.now c.in-Replay.slice (ap request_of c.in-Replay.is)) (needs_of q r (ap request_of c.in-Replay.is))

pub returns-in-Audit-clause-answered : goal.returns-in-Audit-clause-answered
returns-in-Audit-clause-answered g c =
    let q = request_of c.args.request.now in
    let r = Audit c.in-Audit.manifest.now c.in-Audit.trace.now c.in-Audit.slice in
    answered_as g.F.Files.told g.F.Files.calm g.F.Files.faults (λ m. ReplayAnswer m c.in-Audit.manifest.now (Some c.in-Audit.trace.now) writes.Certificate) (λ m. RequestAnswer m q) (λ m. HasFilesFor m q) (λ m. HasFilesFor m r)
    (subst (λ w. Answered g.F.Files.told g.F.Files.calm g.F.Files.faults c.args.files.now c.run_page-in-Audit.new.files c.run_page-in-Audit.result (λ m. ReplayAnswer m c.in-Audit.manifest.now (Some c.in-Audit.trace.now) w) (λ m. HasRunFiles m c.in-Audit.manifest.now (Some c.in-Audit.trace.now))) (ap (λ (w : Way). w.writes) c.auditing.ensures) c.run_page-in-Audit.ensures.answered)
    (audit_in q c.in-Audit.manifest.now c.in-Audit.trace.now c.in-Audit.slice (ap request_of c.in-Audit.is)) (needs_of q r (ap request_of c.in-Audit.is))

pub returns-in-Audit-clause-left : goal.returns-in-Audit-clause-left
returns-in-Audit-clause-left g c =
    let told = g.F.Files.told c.args.files.now in
    as_asked (request_of c.args.request.now) (Audit c.in-Audit.manifest.now c.in-Audit.trace.now c.in-Audit.slice) told c.run_page-in-Audit.result (ap request_of c.in-Audit.is)
    (subst (λ k. IsLeft told c.run_page-in-Audit.result (λ m. LeftByPage m c.in-Audit.manifest.now (Some c.in-Audit.trace.now) k)) (ap (λ (w : Way). w.slice) c.auditing.ensures) c.run_page-in-Audit.ensures.left)

pub returns-in-Audit-clause-confined : goal.returns-in-Audit-clause-confined
returns-in-Audit-clause-confined g c = λ what. c.run_page-in-Audit.ensures.confined (ap (λ (w : Way). w.writes) c.auditing.ensures)

pub returns-in-CheckAudit-clause-answered : goal.returns-in-CheckAudit-clause-answered
returns-in-CheckAudit-clause-answered g c =
    let q = request_of c.args.request.now in
    let r = CheckAudit c.in-CheckAudit.file.now in
    answered_as g.F.Files.told g.F.Files.calm g.F.Files.faults (λ m. CheckAuditAnswer m c.in-CheckAudit.file.now) (λ m. RequestAnswer m q) (λ m. HasFilesFor m q) (λ m. HasFilesFor m r) c.check_audit.ensures.answered (certified_in q c.in-CheckAudit.file.now (ap request_of c.in-CheckAudit.is)) (needs_of q r (ap request_of c.in-CheckAudit.is))

pub returns-in-CheckAudit-clause-left : goal.returns-in-CheckAudit-clause-left
returns-in-CheckAudit-clause-left g c = none_left (request_of c.args.request.now) (CheckAudit c.in-CheckAudit.file.now) (g.F.Files.told c.args.files.now) c.check_audit.result (ap request_of c.in-CheckAudit.is) (λ m h is. is) c.check_audit.ensures.no_host

pub returns-in-Check-clause-left : goal.returns-in-Check-clause-left
returns-in-Check-clause-left g c = none_left (request_of c.args.request.now) (Check c.in-Check.manifest.now) (g.F.Files.told c.args.files.now) c.check_page.result (ap request_of c.in-Check.is) (λ m h is. is) c.check_page.ensures.no_host

pub returns-in-CheckLib-clause-left : goal.returns-in-CheckLib-clause-left
returns-in-CheckLib-clause-left g c = none_left (request_of c.args.request.now) (CheckLib c.in-CheckLib.file.now) (g.F.Files.told c.args.files.now) c.report_library.result (ap request_of c.in-CheckLib.is) (λ m h is. is) c.report_library.ensures.no_host

pub returns-in-Tidy-clause-left : goal.returns-in-Tidy-clause-left
returns-in-Tidy-clause-left g c = none_left (request_of c.args.request.now) (Tidy c.in-Tidy.file.now) (g.F.Files.told c.args.files.now) c.report_library-in-Tidy.result (ap request_of c.in-Tidy.is) (λ m h is. is) c.report_library-in-Tidy.ensures.no_host

pub returns-in-Render-clause-left : goal.returns-in-Render-clause-left
returns-in-Render-clause-left g c = as_asked (request_of c.args.request.now) (Render c.in-Render.manifest.now) (g.F.Files.told c.args.files.now) c.run_page.result (ap request_of c.in-Render.is) c.run_page.ensures.left

pub returns-in-Replay-clause-left : goal.returns-in-Replay-clause-left
returns-in-Replay-clause-left g c =
    let told = g.F.Files.told c.args.files.now in
    as_asked (request_of c.args.request.now) (Replay c.in-Replay.manifest.now c.in-Replay.trace.now c.in-Replay.slice) told c.run_page-in-Replay.result (ap request_of c.in-Replay.is)
    (subst (λ k. IsLeft told c.run_page-in-Replay.result (λ m. LeftByPage m c.in-Replay.manifest.now (Some c.in-Replay.trace.now) k)) (ap (λ (w : Way). w.slice) c.reporting.ensures) c.run_page-in-Replay.ensures.left)

pub demo-requires : goal.demo-requires
demo-requires g c = subst IsSliced (ap request_of c.in-Demo.is) c.requires

pub returns-in_err-demo-in-Demo-clause-answered : goal.returns-in_err-demo-in-Demo-clause-answered
returns-in_err-demo-in-Demo-clause-answered g c =
    let p = err_from_is_err_and c.from_residual.result c.from_residual.ensures.1 in
    let q = request_of c.args.request.now in
    rw (p.1, p.2) (no_memory_left g.F.Files.told g.F.Files.calm g.F.Files.faults (λ m. RequestAnswer m q) (λ m. HasFilesFor m q))

pub returns-in_ok-demo-in-Demo-clause-answered : goal.returns-in_ok-demo-in-Demo-clause-answered
returns-in_ok-demo-in-Demo-clause-answered g c =
    let q = request_of c.args.request.now in
    let r = c.in_ok-demo-in-Demo.field-0 in
    reported g.F.Files.told g.F.Files.calm g.F.Files.faults r (λ m. RequestAnswer m q) (λ m. HasFilesFor m q) (λ m. demo_in q c.in-Demo.count (ap request_of c.in-Demo.is) m (ending r.refused) r.bytes.items c.in_ok-demo-in-Demo.ensures.answer)

pub returns-in_ok-demo-in-Demo-clause-left : goal.returns-in_ok-demo-in-Demo-clause-left
returns-in_ok-demo-in-Demo-clause-left g c =
    let q = request_of c.args.request.now in
    let r = c.in_ok-demo-in-Demo.field-0 in
    let told = g.F.Files.told c.args.files.now in
    as_asked q (Demo c.in-Demo.count) told (Ok r) (ap request_of c.in-Demo.is) (left_here told (λ m h. IsDemoStage c.in-Demo.count h) r.host (λ m. c.in_ok-demo-in-Demo.ensures.stage))

pub returns-in-Check-clause-confined : goal.returns-in-Check-clause-confined
returns-in-Check-clause-confined g c = λ audit. no_audit (request_of c.args.request.now) (Check c.in-Check.manifest.now) (ap request_of c.in-Check.is) refl audit

pub returns-in-CheckLib-clause-confined : goal.returns-in-CheckLib-clause-confined
returns-in-CheckLib-clause-confined g c = λ audit. no_audit (request_of c.args.request.now) (CheckLib c.in-CheckLib.file.now) (ap request_of c.in-CheckLib.is) refl audit

pub returns-in-Tidy-clause-confined : goal.returns-in-Tidy-clause-confined
returns-in-Tidy-clause-confined g c = λ audit. no_audit (request_of c.args.request.now) (Tidy c.in-Tidy.file.now) (ap request_of c.in-Tidy.is) refl audit

pub returns-in-Render-clause-confined : goal.returns-in-Render-clause-confined
returns-in-Render-clause-confined g c = λ audit. no_audit (request_of c.args.request.now) (Render c.in-Render.manifest.now) (ap request_of c.in-Render.is) refl audit

pub returns-in-Replay-clause-confined : goal.returns-in-Replay-clause-confined
returns-in-Replay-clause-confined g c = λ audit. no_audit (request_of c.args.request.now) (Replay c.in-Replay.manifest.now c.in-Replay.trace.now c.in-Replay.slice) (ap request_of c.in-Replay.is) refl audit

pub returns-in-CheckAudit-clause-confined : goal.returns-in-CheckAudit-clause-confined
returns-in-CheckAudit-clause-confined g c = λ audit. no_audit (request_of c.args.request.now) (CheckAudit c.in-CheckAudit.file.now) (ap request_of c.in-CheckAudit.is) refl audit

pub returns-in_err-demo-in-Demo-clause-confined : goal.returns-in_err-demo-in-Demo-clause-confined
returns-in_err-demo-in-Demo-clause-confined g c = λ audit. no_audit (request_of c.args.request.now) (Demo c.in-Demo.count) (ap request_of c.in-Demo.is) refl audit

pub returns-in_ok-demo-in-Demo-clause-confined : goal.returns-in_ok-demo-in-Demo-clause-confined
returns-in_ok-demo-in-Demo-clause-confined g c = λ audit. no_audit (request_of c.args.request.now) (Demo c.in-Demo.count) (ap request_of c.in-Demo.is) refl audit
