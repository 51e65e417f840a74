use Rattle.std.proofs.Common.{◌≡◌, ◌++◌, map, take}
use Rattle.event_loop.specs.Around.{timers}
use Rattle.event_loop.specs.Timers.{by_due}
use Rattle.slot_reach.specs.Reads.{ref_at}
use Rattle.slot_reach.proofs.held.push_timers.Given as goal

-- the timers before
abbrev pub invariant-timers : goal.invariant-timers
invariant-timers l = l.out.items ≡ l.fn.out.items ++ map (λ t. ref_at l.names l.store.cells t.func) (take l.at (by_due (timers l.around)))
