-- Laws of the cut: how lives grow with the items of a trace, and which swap ends which of them.
use Rattle.std.specs.Prelude.{◌≡◌, ℕ, ◌+◌, ◌≤◌, Bool, true, false, List, [], ◌∷◌, ◌++◌, take, length, slice_index_or, slice_get, Some, None}
use Rattle.trace_reader.specs.Said.{Said}
use Rattle.life_split.specs.Cut.{is_swap as is_swap_of}
use Rattle.slot_lives.specs.Lives.{Life, cut_item, gives_to, given_to, swaps_in, lives, last_life, ended_at}

-- an item swaps the file of the slot with a number
abbrev pub swaps : ℕ → Said → Bool
swaps w i = is_swap_of w (cut_item i)

-- a life that begins, to which nothing was given yet
abbrev pub new_life : {A : Type 0} → A → Life A
new_life runs = record { runs = runs; items = []; until = None }

-- a life with what an item gives to its slot
abbrev pub with_item : {A : Type 0} → ℕ → Said → Life A → Life A
with_item w i life = record { runs = life.runs; items = life.items ++ gives_to w i; until = life.until }

-- a life that a swap ended, by its position from 1
abbrev pub ended_by : {A : Type 0} → ℕ → Life A → Life A
ended_by n life = record { runs = life.runs; items = life.items; until = Some n }

-- where `first` runs first in the slot with number w, and these are what the swaps of a trace bring
pub record LifeLaws {A : Type 0} (first : A) (others : List A) (w : ℕ) : Type 0 where
  -- the last life: before all items what runs first; each item goes to it that is no swap of the slot; and a swap of the slot begins a new one
  pub before : last_life first others [] w ≡ new_life first
  pub given : (items : List Said) (i : Said) → swaps w i ≡ false → last_life first others (items ++ i ∷ []) w ≡ with_item w i (last_life first others items w)
  pub swapped : (items : List Said) (i : Said) → swaps w i ≡ true → last_life first others (items ++ i ∷ []) w ≡ new_life (slice_index_or others (swaps_in items) first)
  -- it is the one that no swap ends
  pub not_ended : (items : List Said) → (last_life first others items w).until ≡ None
  -- a swap of the slot ends the life that was the last one until then, and nothing else ends a life
  pub ended : (items : List Said) (p : ℕ) (i : Said) → slice_get items p ≡ Some i → swaps w i ≡ true
      → ended_at (p + 1) (lives first others items w) ≡ ended_by (p + 1) (last_life first others (take p items) w) ∷ []
  pub none_ended : (items : List Said) (p : ℕ) (i : Said) → slice_get items p ≡ Some i → swaps w i ≡ false → ended_at (p + 1) (lives first others items w) ≡ []
  pub none_beyond : (items : List Said) (p : ℕ) → length items ≤ p → ended_at (p + 1) (lives first others items w) ≡ []
  -- what no swap of these items brings does not matter
  pub others_beyond : (items : List Said) (more : List A) → swaps_in items ≤ length others → lives first (others ++ more) items w ≡ lives first others items w
  -- without a swap of the slot it has one life, with all that is given to it
  pub no_swap : (items : List Said) → ((p : ℕ) (i : Said) → slice_get items p ≡ Some i → swaps w i ≡ false)
      → lives first others items w ≡ record { runs = first; items = given_to w items; until = None } ∷ []
