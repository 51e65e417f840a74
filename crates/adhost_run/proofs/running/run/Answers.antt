use Rattle.std.proofs.Common.{refl}
use Rattle.run_steps.specs.declared.ending.Status.TheVariants as status
use Rattle.run_steps.specs.Page.{texts}
use Rattle.run_steps.specs.Request.{request_of}
use Rattle.adhost_run.specs.Answer.{ending, RequestAnswer, Answer}
use Rattle.run_steps.proofs.ReadsLemmas.{reads_nothing, reads_as}
use Rattle.adhost_run.proofs.Ended.{pass_report, pass_stop}
use Rattle.adhost_run.proofs.Ended.{asked_of, needs, usage_answer, usage_complete, sink_stays, stop_answer, stop_is_usage, stop_complete, no_silence, still_none, ok_answer, ok_complete, ok_part, ok_is_usage, ok_confined, stop_not_whole, fits_one, sink_as}
use Rattle.run_steps.proofs.Asking.{sliced}
use Rattle.run_steps.proofs.Stepping.{stop_write, stop_read}
use Rattle.adhost_run.specs.Ends.{writes}
use Rattle.adhost_run.proofs.Staging.{leaves_of, written_writes, stop_silent, not_both}
use Rattle.adhost_run.proofs.running.run.Goals as goal

-- words of no form
pub returns-in_default-clause-answer : goal.returns-in_default-clause-answer
returns-in_default-clause-answer g c = λ is. usage_answer (g.F.Files.told c.args.files.now) (texts c.args.words.now) (g.S.Sink.held c.args.sink.now) c.in_default.ensures.none

pub report_on-requires : goal.report_on-requires
report_on-requires g c = sliced (texts c.args.words.now) (request_of c.in-Some.request) c.in-Some.ensures.some

pub returns-in_default-clause-complete : goal.returns-in_default-clause-complete
returns-in_default-clause-complete g c = usage_complete (g.F.Files.told c.args.files.now) (texts c.args.words.now) (g.F.Files.calm c.args.files.now) (g.S.Sink.takes c.args.sink.now) c.in_default.ensures.none

pub returns-in_default-clause-reads : goal.returns-in_default-clause-reads
returns-in_default-clause-reads g c = reads_nothing g.F.Files.told g.F.Files.calm g.F.Files.faults (λ e. (let f = e in cc))

pub returns-in_default-clause-sink : goal.returns-in_default-clause-sink
returns-in_default-clause-sink g c = sink_stays g.S.Sink.faults (λ e. (let f = e in cc))

-- the report is written, or a part of it
pub returns-in-Ok-clause-answer : goal.returns-in-Ok-clause-answer
returns-in-Ok-clause-answer g c = ok_answer c.in-Ok.report.refused c.in-Ok.report.bytes.items (g.S.Sink.takes c.args.sink.now) (g.S.Sink.held c.args.sink.now) (g.S.Sink.held c.write_report-status.new.sink) (g.F.Files.told c.args.files.now) (texts c.args.words.now) c.write_report-status.result (pass_report (λ m. RequestAnswer m (request_of c.in-Some.request)) (λ m. Answer (texts c.args.words.now) m) (asked_of (texts c.args.words.now) (request_of c.in-Some.request) c.in-Some.ensures.some) (g.F.Files.told c.args.files.now) (ending c.in-Ok.report.refused) c.in-Ok.report.bytes.items c.in-Ok.ensures.answered.answer) c.write_report-status.ensures.written

pub returns-in-Ok-clause-usage : goal.returns-in-Ok-clause-usage
returns-in-Ok-clause-usage g c = ok_is_usage c.in-Ok.report.refused c.in-Ok.report.bytes.items (g.S.Sink.takes c.args.sink.now) (g.S.Sink.held c.args.sink.now) (g.S.Sink.held c.write_report-status.new.sink) (texts c.args.words.now) (request_of c.in-Some.request) c.write_report-status.result c.in-Some.ensures.some c.write_report-status.ensures.written

pub returns-in-Ok-clause-complete : goal.returns-in-Ok-clause-complete
returns-in-Ok-clause-complete g c = ok_complete c.in-Ok.report.refused c.in-Ok.report.bytes.items (g.S.Sink.takes c.args.sink.now) (g.S.Sink.held c.args.sink.now) (g.S.Sink.held c.write_report-status.new.sink) (g.F.Files.told c.args.files.now) (texts c.args.words.now) c.write_report-status.result (g.F.Files.calm c.args.files.now) (pass_report (λ m. RequestAnswer m (request_of c.in-Some.request)) (λ m. Answer (texts c.args.words.now) m) (asked_of (texts c.args.words.now) (request_of c.in-Some.request) c.in-Some.ensures.some) (g.F.Files.told c.args.files.now) (ending c.in-Ok.report.refused) c.in-Ok.report.bytes.items c.in-Ok.ensures.answered.answer) c.write_report-status.ensures.written

pub returns-in-Ok-clause-reads : goal.returns-in-Ok-clause-reads
returns-in-Ok-clause-reads g c = reads_as g.F.Files.told g.F.Files.calm g.F.Files.faults c.in-Ok.ensures.answered.reads (λ failed. absurd (no_silence c.in-Ok.report.refused c.in-Ok.report.bytes.items (g.S.Sink.takes c.args.sink.now) (g.S.Sink.held c.args.sink.now) (g.S.Sink.held c.write_report-status.new.sink) c.write_report-status.result status.ReadFault c.write_report-status.ensures.written refl failed)) (needs (g.F.Files.told c.args.files.now) (texts c.args.words.now) (request_of c.in-Some.request) c.in-Some.ensures.some)

pub returns-in-Ok-clause-sink : goal.returns-in-Ok-clause-sink
returns-in-Ok-clause-sink g c = sink_as g.S.Sink.faults c.write_report-status.ensures.sink (fits_one (g.F.Files.told c.args.files.now) (texts c.args.words.now) (ending c.in-Ok.report.refused) c.in-Ok.report.bytes.items (g.S.Sink.takes c.args.sink.now) (pass_report (λ m. RequestAnswer m (request_of c.in-Some.request)) (λ m. Answer (texts c.args.words.now) m) (asked_of (texts c.args.words.now) (request_of c.in-Some.request) c.in-Some.ensures.some) (g.F.Files.told c.args.files.now) (ending c.in-Ok.report.refused) c.in-Ok.report.bytes.items c.in-Ok.ensures.answered.answer))

pub returns-in-Ok-clause-part : goal.returns-in-Ok-clause-part
returns-in-Ok-clause-part g c = ok_part c.in-Ok.report.refused c.in-Ok.report.bytes.items (g.S.Sink.takes c.args.sink.now) (g.S.Sink.held c.args.sink.now) (g.S.Sink.held c.write_report-status.new.sink) (g.F.Files.told c.args.files.now) (texts c.args.words.now) c.write_report-status.result (pass_report (λ m. RequestAnswer m (request_of c.in-Some.request)) (λ m. Answer (texts c.args.words.now) m) (asked_of (texts c.args.words.now) (request_of c.in-Some.request) c.in-Some.ensures.some) (g.F.Files.told c.args.files.now) (ending c.in-Ok.report.refused) c.in-Ok.report.bytes.items c.in-Ok.ensures.answered.answer) c.write_report-status.ensures.written

pub returns-in-Ok-clause-still : goal.returns-in-Ok-clause-still
returns-in-Ok-clause-still g c = λ silent. still_none c.in-Ok.report.refused c.in-Ok.report.bytes.items (g.S.Sink.takes c.args.sink.now) (g.S.Sink.held c.args.sink.now) (g.S.Sink.held c.write_report-status.new.sink) c.write_report-status.result c.write_report-status.ensures.written silent

-- there is none
pub returns-in-Err-clause-answer : goal.returns-in-Err-clause-answer
returns-in-Err-clause-answer g c = rw c.status_of.ensures (stop_answer (g.F.Files.told c.args.files.now) (texts c.args.words.now) c.in-Err.stop (g.S.Sink.held c.args.sink.now) (pass_stop (λ m. RequestAnswer m (request_of c.in-Some.request)) (λ m. Answer (texts c.args.words.now) m) (asked_of (texts c.args.words.now) (request_of c.in-Some.request) c.in-Some.ensures.some) (g.F.Files.told c.args.files.now) c.in-Err.stop c.in-Err.ensures.answered.stops))

pub returns-in-Err-clause-usage : goal.returns-in-Err-clause-usage
returns-in-Err-clause-usage g c = rw c.status_of.ensures (stop_is_usage (texts c.args.words.now) (request_of c.in-Some.request) c.in-Err.stop c.in-Some.ensures.some)

pub returns-in-Err-clause-complete : goal.returns-in-Err-clause-complete
returns-in-Err-clause-complete g c = rw c.status_of.ensures (stop_complete (g.F.Files.told c.args.files.now) (texts c.args.words.now) c.in-Err.stop (g.F.Files.calm c.args.files.now) (g.S.Sink.takes c.args.sink.now) (pass_stop (λ m. RequestAnswer m (request_of c.in-Some.request)) (λ m. Answer (texts c.args.words.now) m) (asked_of (texts c.args.words.now) (request_of c.in-Some.request) c.in-Some.ensures.some) (g.F.Files.told c.args.files.now) c.in-Err.stop c.in-Err.ensures.answered.stops) (λ is has failed. c.in-Err.ensures.answered.reads.no_fault is (needs (g.F.Files.told c.args.files.now) (texts c.args.words.now) (request_of c.in-Some.request) c.in-Some.ensures.some has) (stop_read c.in-Err.stop failed)))

pub returns-in-Err-clause-reads : goal.returns-in-Err-clause-reads
returns-in-Err-clause-reads g c = rw c.status_of.ensures (reads_as g.F.Files.told g.F.Files.calm g.F.Files.faults c.in-Err.ensures.answered.reads (stop_read c.in-Err.stop) (needs (g.F.Files.told c.args.files.now) (texts c.args.words.now) (request_of c.in-Some.request) c.in-Some.ensures.some))

pub returns-in-Err-clause-sink : goal.returns-in-Err-clause-sink
returns-in-Err-clause-sink g c = rw c.status_of.ensures (sink_stays g.S.Sink.faults (stop_write c.in-Err.stop))

pub returns-in-Err-clause-part : goal.returns-in-Err-clause-part
returns-in-Err-clause-part g c = rw c.status_of.ensures (λ is. absurd (stop_write c.in-Err.stop is))

-- the host that is left
pub returns-in-Ok-clause-left : goal.returns-in-Ok-clause-left
returns-in-Ok-clause-left g c = λ is. leaves_of (g.F.Files.told c.args.files.now) (texts c.args.words.now) (request_of c.in-Some.request) c.in-Ok.report.host c.in-Some.ensures.some c.in-Ok.ensures.left

pub returns-in-Ok-clause-none : goal.returns-in-Ok-clause-none
returns-in-Ok-clause-none g c = λ silent. absurd (not_both (writes c.write_report-status.result) (written_writes c.in-Ok.report.refused c.in-Ok.report.bytes.items (g.S.Sink.takes c.args.sink.now) (g.S.Sink.held c.args.sink.now) (g.S.Sink.held c.write_report-status.new.sink) c.write_report-status.result c.write_report-status.ensures.written) silent)

pub returns-in-Err-clause-left : goal.returns-in-Err-clause-left
returns-in-Err-clause-left g c = rw c.status_of.ensures (λ is. absurd (stop_silent c.in-Err.stop is))

-- the certificate of `audit` is confined
pub returns-in_default-clause-confined : goal.returns-in_default-clause-confined
returns-in_default-clause-confined g c = λ other is. (let f = is in cc)

pub returns-in-Ok-clause-confined : goal.returns-in-Ok-clause-confined
returns-in-Ok-clause-confined g c = ok_confined c.in-Ok.report.refused c.in-Ok.report.bytes.items (g.S.Sink.takes c.args.sink.now) (g.S.Sink.held c.args.sink.now) (g.S.Sink.held c.write_report-status.new.sink) (texts c.args.words.now) (request_of c.in-Some.request) c.write_report-status.result c.in-Some.ensures.some c.write_report-status.ensures.written c.in-Ok.ensures.confined

pub returns-in-Err-clause-confined : goal.returns-in-Err-clause-confined
returns-in-Err-clause-confined g c = rw c.status_of.ensures (λ other is. stop_not_whole c.in-Err.stop is)
