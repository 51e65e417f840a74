-- Slots by their names, and by their numbers.
use Rattle.std.specs.Prelude.{◌≡◌, ◌<◌, ℕ, List, [], All, length, map, slice_get, slice_index_or, Some}
use Rattle.trace_reader.specs.Said.{Said, an_event, an_advance, a_swap}
use Rattle.widget_meaning.specs.Alone.{Given, Sent, Passed, Swapped, delivered}
use Rattle.slot_lives.specs.Lives.{given_to}

-- what an item of a trace gives to a page whose slots have these names
abbrev pub given_by : List (List ℕ) → Said → Given
given_by names (an_event to kind path value) = Sent (slice_index_or names to []) (record { kind = kind; path = path; value = value })
given_by names (an_advance ms) = Passed ms
given_by names (a_swap to file) = Swapped (slice_index_or names to [])

-- no two slots have one name
abbrev pub AreApart : List (List ℕ) → Type 0
AreApart names = (v w : ℕ) (x : List ℕ) → slice_get names v ≡ Some x → slice_get names w ≡ Some x → v ≡ w

-- an event is for one of so many slots
abbrev pub IsWithin : ℕ → Said → Type 0
IsWithin slots (an_event to kind path value) = to < slots
IsWithin slots (an_advance ms) = Unit {0}
IsWithin slots (a_swap to file) = Unit {0}

-- what is delivered to the name of a slot is what is given to its number
abbrev pub SameDelivered : Type 0
SameDelivered = (names : List (List ℕ)) (items : List Said) (w : ℕ) (x : List ℕ) → AreApart names → All (IsWithin (length names)) items → slice_get names w ≡ Some x
    → delivered (map (given_by names) items) x ≡ given_to w items
