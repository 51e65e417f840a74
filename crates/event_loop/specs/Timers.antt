-- Waiting timers, in the order of their start.
use Rattle.std.specs.Prelude.{ℕ, ℤ, pos, negsuc, max, List, [], ◌∷◌, nat_le, nat_eq, Option, Some, None, if◌then◌else◌}
use Rattle.event_loop.specs.declared.timers.Timer.{Timer}

-- the timer with the lesser due time, the first at a tie
abbrev pub sooner : Option Timer → Option Timer → Option Timer
sooner None u = u
sooner (Some t) None = Some t
sooner (Some t) (Some u) = if nat_le t.at u.at then Some t else Some u

-- the waiting timer with the least due time up to a limit, the earlier started at a tie
abbrev pub next_due : ℕ → List Timer → Option Timer
next_due limit [] = None
next_due limit (t ∷ ts) = sooner (if nat_le t.at limit then Some t else None) (next_due limit ts)

-- without the first that is due then
abbrev pub without_due : ℕ → List Timer → List Timer
without_due d [] = []
without_due d (t ∷ ts) = if nat_eq t.at d then ts else t ∷ without_due d ts

-- a timer put among others that were started later: before the first that is not due earlier
abbrev pub put_by_due : Timer → List Timer → List Timer
put_by_due t [] = t ∷ []
put_by_due t (u ∷ us) = if nat_le t.at u.at then t ∷ u ∷ us else u ∷ put_by_due t us

-- timers by their due times, the earlier started first at a tie
abbrev pub by_due : List Timer → List Timer
by_due [] = []
by_due (t ∷ ts) = put_by_due t (by_due ts)

-- so many milliseconds a timer waits at least
abbrev pub min_delay : ℕ
min_delay = 10

-- a timer waits the larger of the least and the given time
abbrev pub delay : ℤ → ℕ
delay (pos n) = max min_delay n
delay (negsuc n) = min_delay
