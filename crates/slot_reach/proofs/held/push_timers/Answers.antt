use Rattle.std.proofs.Common.{sym, ◌∙◌}
use Rattle.event_loop.specs.Around.{timers}
use Rattle.event_loop.specs.Timers.{by_due}
use Rattle.event_loop.specs.declared.timers.Timer.{Timer}
use Rattle.slot_reach.specs.Reads.{ref_at}
use Rattle.slot_reach.proofs.Steps.{all_items, more_items}
use Rattle.slot_reach.proofs.held.push_timers.Goals as goal

pub returns-in_default : goal.returns-in_default
returns-in_default c =
    all_items (λ (t : Timer). ref_at c.args.names.now c.args.store.now.cells t.func) (by_due (timers c.args.around.now)) c.timers.at c.args.out.now.items c.timers.out.items (sym c.timer.ensures ∙ c.in_default.is) c.timers.invariant

pub timers-preserved : goal.timers-preserved
timers-preserved c =
    more_items (λ (t : Timer). ref_at c.args.names.now c.args.store.now.cells t.func) (by_due (timers c.args.around.now)) c.timers.at c.in-Some.timer c.args.out.now.items c.timers.out.items c.push.new.self.items _ (sym c.timer.ensures ∙ c.in-Some.is) c.timers.invariant c.in_ok-reference.ensures c.in_ok-push.ensures.items
