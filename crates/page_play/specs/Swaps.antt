-- The swaps among the items of a trace.
use Rattle.std.specs.Prelude.{ℕ, ◌+◌, List, [], ◌∷◌, nat_eq, if◌then◌else◌, slice_index_or, Option, Some, None}
use Rattle.trace_reader.specs.Said.{Said, an_event, an_advance, a_swap}

-- the slots of the swaps among items, in order
abbrev pub swap_slots : List Said → List ℕ
swap_slots [] = []
swap_slots (an_event to kind path value ∷ items) = swap_slots items
swap_slots (an_advance ms ∷ items) = swap_slots items
swap_slots (a_swap to file ∷ items) = to ∷ swap_slots items

-- the positions of these swaps, counted from 1, where so many items stand before
abbrev pub swap_positions : ℕ → List Said → List ℕ
swap_positions n [] = []
swap_positions n (an_event to kind path value ∷ items) = swap_positions (n + 1) items
swap_positions n (an_advance ms ∷ items) = swap_positions (n + 1) items
swap_positions n (a_swap to file ∷ items) = (n + 1) ∷ swap_positions (n + 1) items

-- the last of swaps of these slots that is one of slot w, by its number; they are numbered from n, and `last` is one before them
abbrev pub last_swap_from : ℕ → ℕ → Option ℕ → List ℕ → Option ℕ
last_swap_from w n last [] = last
last_swap_from w n last (to ∷ tos) = last_swap_from w (n + 1) (if nat_eq to w then Some n else last) tos

-- of all swaps
abbrev pub last_swap : ℕ → List ℕ → Option ℕ
last_swap w tos = last_swap_from w 0 None tos

-- what a life has that begins with a slot, or with the swap of a number
abbrev pub brought_by : {A : Type 0} → A → List A → Option ℕ → A
brought_by first others None = first
brought_by first others (Some i) = slice_index_or others i first
