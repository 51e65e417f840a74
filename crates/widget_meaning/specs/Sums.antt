-- What a whole run comes to at most, by its items: turns, units spent, events that no turn took, and the clock.
use Rattle.std.specs.Prelude.{◌≤◌, ℕ, ◌+◌, ◌*◌, ◌/◌, List, length, sum_by}
use Rattle.widget_meaning.specs.Limits.{max_timers, min_delay}
use Rattle.widget_meaning.specs.Items.{Item, Occurs, Advance}
use Rattle.widget_meaning.specs.Alone.{Content, alone}

-- how many turns an item begins at most
abbrev pub turns_of : Item → ℕ
turns_of (Occurs e) = 1
turns_of (Advance d) = max_timers * (d / min_delay + 2)

-- how many events an item is
abbrev pub events_of : Item → ℕ
events_of (Occurs e) = 1
events_of (Advance d) = 0

-- the milliseconds that go by
abbrev pub time_of : Item → ℕ
time_of (Occurs e) = 0
time_of (Advance d) = d

-- a turn for each library and for `go`, and those of the items; each spends its grant at most
pub record SumLaws (w : Content) (grant : ℕ) (is : List Item) : Type 0 where
  pub turns : (alone w grant is).turns ≤ length w.libraries + 1 + sum_by turns_of is
  pub spent : (alone w grant is).spent ≤ (alone w grant is).turns * grant
  pub events : (alone w grant is).missed + (alone w grant is).gone ≤ sum_by events_of is
  pub clock : (alone w grant is).clock ≤ sum_by time_of is
