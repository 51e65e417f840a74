use Rattle.slot_check.proofs.Accepting.{clean_id}
use Rattle.slot_check.proofs.Refusals.{id_refused}
use Rattle.slot_check.proofs.parts.judge_id.Goals as goal

pub returns-in_err-judge_span-clause-broken : goal.returns-in_err-judge_span-clause-broken
returns-in_err-judge_span-clause-broken c = id_refused c.args.name.now c.in_ok-share.field-0 c.args.file.now c.args.script c.in-Some.span c.from_residual-in_err-judge_span.result c.in_err-judge_span.field-0.0 c.in-Some.is c.in_ok-share.ensures c.from_residual-in_err-judge_span.ensures.1 c.in_err-judge_span.ensures.broken

pub returns-clause-clean : goal.returns-clause-clean
returns-clause-clean c = clean_id c.args.name.now c.in_ok-share.field-0 c.args.file.now.bytes.items c.args.script c.in-Some.span c.in_ok-judge_span.field-0 c.in-Some.is c.in_ok-share.ensures c.in_ok-judge_span.ensures.accepted
