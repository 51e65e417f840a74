use Rattle.std.proofs.Common.{length, refl, ap, subst, ◌∙◌, arith}
use Rattle.trace_reader.specs.Said.{said}
use Rattle.live_text.specs.declared.answer.Cause.TheVariants as cause
use Rattle.live_text.specs.declared.request.Request.TheVariants as request
use Rattle.live_text.specs.declared.request.RequestFault.TheVariants as fault
use Rattle.live_text.specs.Request.{IsRequestFault, ReadsRequest}
use Rattle.live_lines.specs.Transcript.{no_json, too_long}
use Rattle.live_lines.proofs.Causes.{other_refused, report_no_item, same_item}
use Rattle.live_lines.proofs.Replying.{alive_of, answered_line, few_names, line_refused, no_request_of, on_one, reads_for, report_answered}
use Rattle.live_lines.proofs.answering.answer_line.Goals as goal

pub returns-then-line-gt-LINE_LIMIT-clause-answered : goal.returns-then-line-gt-LINE_LIMIT-clause-answered
returns-then-line-gt-LINE_LIMIT-clause-answered g c =
    on_one c.push_refused.result _ _ (λ appended. line_refused g.F.Files.told g.F.Files.calm g.F.Files.faults c.args.line.now c.args.session.now _ _ c.args.files.now c.requires.stands cause.TooLong appended
    (λ parts pairs runs same. too_long (omega (arith, c.if-line-gt-LINE_LIMIT.true)))) c.push_refused.ensures

pub read_request-requires : goal.read_request-requires
read_request-requires g c = omega (arith, few_names c.args.session.now c.requires.stands, ap length c.deref.ensures.value)

pub answer_item-requires-clause-stands : goal.answer_item-requires-clause-stands
answer_item-requires-clause-stands g c = c.requires.stands

pub answer_item-requires-clause-room : goal.answer_item-requires-clause-room
answer_item-requires-clause-room g c = c.requires.room

pub answer_item-requires-clause-shape : goal.answer_item-requires-clause-shape
answer_item-requires-clause-shape g c = reads_for c.args.line.now c.deref.result.now c.args.session.now.page.findings.names.items c.in-Ok-Item.field-0 c.in-Ok-Item.item c.in-Ok-Item.field-0-is c.deref.ensures.value c.in-Ok-Item.ensures.ok

pub answer_report-requires : goal.answer_report-requires
answer_report-requires g c = record { alive = alive_of c.args.session.now c.requires.stands }

pub returns-in-Ok-Item-clause-answered : goal.returns-in-Ok-Item-clause-answered
returns-in-Ok-Item-clause-answered g c =
    on_one c.answer_item.result _ _ (λ is. answered_line g.F.Files.told g.F.Files.calm g.F.Files.faults c.args.line.now c.in-Ok-Item.item c.args.session.now _ _ _ c.args.files.now c.answer_item.new.files (omega (arith, c.if-line-gt-LINE_LIMIT.false))
    (subst (λ r. ReadsRequest c.args.line.now c.args.session.now.page.findings.names.items r) c.in-Ok-Item.field-0-is (subst (λ ns. ReadsRequest c.args.line.now ns c.in-Ok-Item.field-0) c.deref.ensures.value c.in-Ok-Item.ensures.ok)) is)
    c.answer_item.ensures.answered

pub returns-in-Ok-Report-clause-answered : goal.returns-in-Ok-Report-clause-answered
returns-in-Ok-Report-clause-answered g c =
    on_one c.answer_report.result _ _ (λ is. report_answered g.F.Files.told g.F.Files.calm g.F.Files.faults c.args.line.now c.args.session.now _ _ c.args.files.now c.requires.stands (omega (arith, c.if-line-gt-LINE_LIMIT.false))
    (subst (λ r. ReadsRequest c.args.line.now c.args.session.now.page.findings.names.items r) c.in-Ok-Report.field-0-is (subst (λ ns. ReadsRequest c.args.line.now ns c.in-Ok-Report.field-0) c.deref.ensures.value c.in-Ok-Report.ensures.ok)) is)
    c.answer_report.ensures

pub returns-in-Err-NotJson-clause-answered : goal.returns-in-Err-NotJson-clause-answered
returns-in-Err-NotJson-clause-answered g c =
    on_one c.push_refused-in-Err-NotJson.result _ _ (λ appended. line_refused g.F.Files.told g.F.Files.calm g.F.Files.faults c.args.line.now c.args.session.now _ _ c.args.files.now c.requires.stands cause.NotJson appended
    (λ parts pairs runs same. no_json (omega (arith, c.if-line-gt-LINE_LIMIT.false)) (subst (λ f. IsRequestFault c.args.line.now c.deref.result.now f) c.in-Err-NotJson.field-0-is c.in-Err-NotJson.ensures.err))) c.push_refused-in-Err-NotJson.ensures

pub returns-in-Err-BadShape-clause-answered : goal.returns-in-Err-BadShape-clause-answered
returns-in-Err-BadShape-clause-answered g c =
    on_one c.push_refused-in-Err-BadShape.result _ _ (λ appended. line_refused g.F.Files.told g.F.Files.calm g.F.Files.faults c.args.line.now c.args.session.now _ _ c.args.files.now c.requires.stands cause.BadShape appended
    (λ parts pairs runs same. no_request_of parts pairs runs c.args.line.now c.args.session.now.page.findings.names.items same (omega (arith, c.if-line-gt-LINE_LIMIT.false))
    (subst (λ ns. IsRequestFault c.args.line.now ns fault.BadShape) c.deref.ensures.value (subst (λ f. IsRequestFault c.args.line.now c.deref.result.now f) c.in-Err-BadShape.field-0-is c.in-Err-BadShape.ensures.err)))) c.push_refused-in-Err-BadShape.ensures

pub returns-then-line-gt-LINE_LIMIT-clause-no_file : goal.returns-then-line-gt-LINE_LIMIT-clause-no_file
returns-then-line-gt-LINE_LIMIT-clause-no_file g c = λ file asks. on_one c.push_refused.result _ _ (other_refused cause.TooLong _ _ refl) c.push_refused.ensures

pub returns-in-Ok-Item-clause-no_file : goal.returns-in-Ok-Item-clause-no_file
returns-in-Ok-Item-clause-no_file g c = λ file asks.
    (let line = c.args.line.now in
    let names = c.args.session.now.page.findings.names.items in
    let reads = subst (λ r. ReadsRequest line names r) c.in-Ok-Item.field-0-is (subst (λ ns. ReadsRequest line ns c.in-Ok-Item.field-0) c.deref.ensures.value c.in-Ok-Item.ensures.ok) in
    let same = same_item (said c.in-Ok-Item.item) (said asks.item) (c.one_request.ensures.request line names (request.Item c.in-Ok-Item.item) (request.Item asks.item) reads asks.reads) in
    c.answer_item.ensures.no_file asks.to file (same ∙ asks.is))

pub returns-in-Ok-Report-clause-no_file : goal.returns-in-Ok-Report-clause-no_file
returns-in-Ok-Report-clause-no_file g c = λ file asks.
    (let line = c.args.line.now in
    let names = c.args.session.now.page.findings.names.items in
    let reads = subst (λ r. ReadsRequest line names r) c.in-Ok-Report.field-0-is (subst (λ ns. ReadsRequest line ns c.in-Ok-Report.field-0) c.deref.ensures.value c.in-Ok-Report.ensures.ok) in
    report_no_item (said asks.item) (c.one_request.ensures.request line names request.Report (request.Item asks.item) reads asks.reads))

pub returns-in-Err-NotJson-clause-no_file : goal.returns-in-Err-NotJson-clause-no_file
returns-in-Err-NotJson-clause-no_file g c = λ file asks. on_one c.push_refused-in-Err-NotJson.result _ _ (other_refused cause.NotJson _ _ refl) c.push_refused-in-Err-NotJson.ensures

pub returns-in-Err-BadShape-clause-no_file : goal.returns-in-Err-BadShape-clause-no_file
returns-in-Err-BadShape-clause-no_file g c = λ file asks. on_one c.push_refused-in-Err-BadShape.result _ _ (other_refused cause.BadShape _ _ refl) c.push_refused-in-Err-BadShape.ensures
