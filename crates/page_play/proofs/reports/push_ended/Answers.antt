use Rattle.std.proofs.Common.{arith}
use Rattle.page_play.proofs.Telling.{ended_more, ended_all}
use Rattle.page_play.proofs.reports.push_ended.Goals as goal

pub ended_line-requires-clause-told : goal.ended_line-requires-clause-told
ended_line-requires-clause-told c = c.requires.told

pub swaps-preserved : goal.swaps-preserved
swaps-preserved c = λ owns before told.
    ended_more c.args.findings.now c.args.host.now owns before told c.swaps.i c.args.out.now.items c.swaps.out.items c.report_line.new.out.items _ (omega (arith, c.swaps-test.true, c.len-i-end.ensures)) (c.swaps.invariant owns before told) c.in_ok-report_line.ensures.ok (λ to own at is. c.in_ok-line.ensures owns before to own told at is)

pub returns : goal.returns
returns c = λ owns before told. ended_all c.args.findings.now c.args.host.now owns before told c.swaps.i c.args.out.now.items c.swaps.out.items (omega (arith, c.swaps-test.false, c.len-i-end.ensures)) (c.swaps.invariant owns before told)
