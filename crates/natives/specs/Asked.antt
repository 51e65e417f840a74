-- What the room of `ADSAFE` leaves to be done.
use Rattle.std.specs.Prelude.{ℕ, ℤ, ◌+◌, List, [], ◌∷◌, Option, None, Some}
use Rattle.event_loop.specs.Timers.{delay}
use Rattle.event_loop.specs.declared.timers.Timer.{Timer}

-- the timer that is asked for at a time, by its function and its milliseconds
abbrev pub asked_timers : ℕ → Option (ℕ × ℤ) → List Timer
asked_timers now None = []
asked_timers now (Some a) = record { func = a.0; at = now + delay a.1 } ∷ []
