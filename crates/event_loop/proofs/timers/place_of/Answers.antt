use Rattle.std.proofs.Common.{ap, arith}
use Rattle.event_loop.specs.declared.timers.Timer.{Timer}
use Rattle.event_loop.proofs.Timings.{put_at, any_default}
use Rattle.event_loop.proofs.timers.place_of.Goals as goal

pub returns-after-each-clause-place : goal.returns-after-each-clause-place
returns-after-each-clause-place c = put_at c.args.timer c.args.sorted.now c.each.place c.each.invariant.bound c.each.invariant.before (λ lt y. absurd (omega (arith, lt, c.each-test.false)))

pub returns-else-sorted-place-clause-place : goal.returns-else-sorted-place-clause-place
returns-else-sorted-place-clause-place c = put_at c.args.timer c.args.sorted.now c.each.place c.each.invariant.bound c.each.invariant.before (λ lt y. omega (arith, ap (λ (t : Timer). t.at) (any_default c.args.sorted.now c.each.place (record { func = 0; at = 0 }) y lt), c.if-sorted-place.false))
