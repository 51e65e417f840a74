-- A trace, cut at the swaps of a slot.
use Rattle.std.specs.Prelude.{ℕ, zero, suc, Bool, true, false, nat_eq, if◌then◌else◌, List, [], ◌∷◌, map, take, length, slice_index_or, slice_range, Option, Some, None}
use Rattle.std.specs.List.{filter, flat_map, range_with_len}
use Rattle.life_split.specs.declared.items.Life.{Life as Stretch}
use Rattle.life_split.specs.declared.items.LifeItem.{LifeItem}
use Rattle.life_split.specs.declared.items.LifeItem.TheVariants as cut
use Rattle.life_split.specs.Cut.{lives_of}
use Rattle.trace_reader.specs.Said.{Said, an_event, an_advance, a_swap}
use Rattle.widget_meaning.specs.Items.{Item, Occurs, Advance}

-- an item of a trace as the cut sees it
abbrev pub cut_item : Said → LifeItem
cut_item (an_event to kind path value) = cut.To to
cut_item (an_advance ms) = cut.All
cut_item (a_swap to file) = cut.Swap to

-- a life of a slot: what runs in it, what of the trace goes to it, and the position of the swap that ends it, counted from 1; none for the last one
pub record Life (A : Type 0) : Type 0 where
  pub runs : A
  pub items : List Item
  pub until : Option ℕ

-- what an item gives to the slot with a number
abbrev pub gives_to : ℕ → Said → List Item
gives_to w (an_event to kind path value) = if nat_eq to w then Occurs (record { kind = kind; path = path; value = value }) ∷ [] else []
gives_to w (an_advance ms) = Advance ms ∷ []
gives_to w (a_swap to file) = []

-- Delivered: what items give to it
abbrev pub given_to : ℕ → List Said → List Item
given_to w items = flat_map (gives_to w) items

-- an item is another file for a slot
abbrev pub is_swap : Said → Bool
is_swap (an_event to kind path value) = false
is_swap (an_advance ms) = false
is_swap (a_swap to file) = true

-- how many swaps are among items
abbrev pub swaps_in : List Said → ℕ
swaps_in items = length (filter is_swap items)

-- what runs in a life that begins at a position: at 0 what runs first, and behind a swap what that swap brings; `others` are what the swaps of the trace bring, in order
abbrev pub runs_from : {A : Type 0} → A → List A → List Said → ℕ → A
runs_from first others items zero = first
runs_from first others items (suc p) = slice_index_or others (swaps_in (take p items)) first

-- a life of the slot with a number, by where it is cut
abbrev pub life_at : {A : Type 0} → A → List A → List Said → ℕ → Stretch → Life A
life_at first others items w cut = record {
  runs = runs_from first others items cut.from;
  items = given_to w (slice_range items cut.from cut.to);
  until = cut.until;
}

-- Lives: the lives of the slot with a number, in the first of which this runs
abbrev pub lives : {A : Type 0} → A → List A → List Said → ℕ → List (Life A)
lives first others items w = map (life_at first others items w) (lives_of (map cut_item items) w)

-- the last of lives; where there is none, one that nothing was given
abbrev pub last_of : {A : Type 0} → A → List (Life A) → Life A
last_of first [] = record { runs = first; items = []; until = None }
last_of first (life ∷ []) = life
last_of first (life ∷ next ∷ more) = last_of first (next ∷ more)

-- the last life of a slot
abbrev pub last_life : {A : Type 0} → A → List A → List Said → ℕ → Life A
last_life first others items w = last_of first (lives first others items w)

-- a swap at this position, counted from 1, ends a life
abbrev pub ends_at : ℕ → Option ℕ → Bool
ends_at n None = false
ends_at n (Some m) = nat_eq m n

-- the lives that it ends
abbrev pub ended_at : {A : Type 0} → ℕ → List (Life A) → List (Life A)
ended_at n lives = filter (λ life. ends_at n life.until) lives

-- the ended lives of a page with so many items, by the position of the swap that ends them
abbrev pub ended_lives : {A : Type 0} → List (List (Life A)) → ℕ → List (Life A)
ended_lives all many = flat_map (λ n. ended_at n (flat_map (λ lives. lives) all)) (range_with_len 1 many)
