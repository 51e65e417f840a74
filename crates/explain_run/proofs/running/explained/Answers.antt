use Rattle.std.proofs.Common.{sym, subst, IfSome}
use Rattle.run_steps.specs.Page.{texts}
use Rattle.explain_run.specs.Request.{request_of}
use Rattle.explain_run.specs.Answer.{AnswerOrFault}
use Rattle.explain_run.proofs.Answering.{usage_answer, told_answer, stop_answer, told_ending, not_usage, not_unread}
use Rattle.explain_run.proofs.running.explained.Goals as goal

pub returns-in-Ok-clause-answer : goal.returns-in-Ok-clause-answer
returns-in-Ok-clause-answer g c =
    let told = g.F.Files.told c.args.files.now in
    let x = c.told_outcome.result in
    subst (λ b. IfSome told (λ m. AnswerOrFault (texts c.args.words.now) m x.status b)) (sym c.told_outcome.ensures.bytes)
    (told_answer (texts c.args.words.now) told (request_of c.in-Some.request) c.in-Ok.told.refused c.in-Ok.told.bytes.items x.status c.told_outcome.ensures.status c.in-Some.ensures.some c.in-Ok.ensures.gives)

pub returns-in-Ok-clause-usage : goal.returns-in-Ok-clause-usage
returns-in-Ok-clause-usage g c = λ is. absurd (not_usage c.in-Ok.told.refused c.told_outcome.result.status c.told_outcome.ensures.status is)

pub returns-in-Ok-clause-read : goal.returns-in-Ok-clause-read
returns-in-Ok-clause-read g c = λ is. absurd (not_unread c.in-Ok.told.refused c.told_outcome.result.status c.told_outcome.ensures.status is)

pub returns-in-Ok-clause-kept : goal.returns-in-Ok-clause-kept
returns-in-Ok-clause-kept g c = told_ending c.in-Ok.told.refused c.told_outcome.result.status c.told_outcome.ensures.status

pub returns-in_default-clause-answer : goal.returns-in_default-clause-answer
returns-in_default-clause-answer g c = usage_answer (texts c.args.words.now) (g.F.Files.told c.args.files.now) _ c.in_default.ensures.none

pub returns-in_ok-bytes-in-Err-Bad-clause-answer : goal.returns-in_ok-bytes-in-Err-Bad-clause-answer
returns-in_ok-bytes-in-Err-Bad-clause-answer g c =
    stop_answer (texts c.args.words.now) (g.F.Files.told c.args.files.now) (request_of c.in-Some.request) c.in-Err-Bad.field-0 c.in-Err-Bad.file c.in-Err-Bad.why _ c.status_of-status.result c.in-Err-Bad.field-0-is c.status_of-status.ensures c.in-Some.ensures.some c.in-Err-Bad.ensures.stops
