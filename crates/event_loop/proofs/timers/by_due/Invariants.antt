use Rattle.std.proofs.Common.{◌≡◌, ◌≤◌, ◌+◌, length, drop}
use Rattle.arrayvec.specs.ArrayVec.{array_vec_len}
use Rattle.event_loop.specs.Timers.{by_due}
use Rattle.event_loop.proofs.timers.by_due.Given as goal

-- the timers from the place on are in order
abbrev pub invariant-down : goal.invariant-down
invariant-down l = record { few : l.place ≤ length l.waiting; sorted : l.sorted.items ≡ by_due (drop l.place l.waiting); len : array_vec_len l.sorted + l.place ≡ length l.waiting }

abbrev pub decreases-down : goal.decreases-down
decreases-down l = l.place
