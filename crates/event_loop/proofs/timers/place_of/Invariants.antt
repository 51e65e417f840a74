use Rattle.std.proofs.Common.{◌<◌, ◌≤◌, ◌-◌, ℕ, length, get_or}
use Rattle.event_loop.specs.declared.timers.Timer.{Timer}
use Rattle.event_loop.proofs.timers.place_of.Given as goal

-- all before the place are due earlier
abbrev pub invariant-each : goal.invariant-each
invariant-each l = record { bound : l.place ≤ length l.sorted; before : (j : ℕ) → j < l.place → (y : Timer) → (get_or l.sorted j y).at < l.timer.at }

abbrev pub decreases-each : goal.decreases-each
decreases-each l = length l.sorted - l.place
