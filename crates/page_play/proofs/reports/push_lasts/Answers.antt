use Rattle.std.proofs.Common.{arith}
use Rattle.page_play.proofs.Telling.{lasts_more, lasts_all}
use Rattle.page_play.proofs.reports.push_lasts.Goals as goal

pub last_line-requires-clause-told : goal.last_line-requires-clause-told
last_line-requires-clause-told c = c.requires.told

pub slots-preserved : goal.slots-preserved
slots-preserved c = λ owns before told.
    lasts_more c.args.findings.now c.args.host.now owns before told c.slots.w c.args.out.now.items c.slots.out.items c.report_line.new.out.items _ (omega (arith, c.slots-test.true, c.len-w-end.ensures)) (c.slots.invariant owns before told) c.in_ok-report_line.ensures.ok (λ own at. c.in_ok-line.ensures owns before own told at)

pub returns : goal.returns
returns c = λ owns before told. lasts_all c.args.findings.now c.args.host.now owns before told c.slots.w c.args.out.now.items c.slots.out.items (omega (arith, c.slots-test.false, c.len-w-end.ensures)) (c.slots.invariant owns before told)
