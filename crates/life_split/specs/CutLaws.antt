-- Laws of the cut.
use Rattle.std.specs.Prelude.{◌≡◌, ℕ, ◌+◌, Bool, true, false, ◌&&◌, nat_le, nat_lt, List, [], ◌∷◌, ◌++◌, length, slice_get, slice_range, Option, Some, None}
use Rattle.std.specs.List.{All, filter, flat_map}
use Rattle.life_split.specs.declared.items.Life.{Life}
use Rattle.life_split.specs.declared.items.LifeItem.{LifeItem}
use Rattle.life_split.specs.declared.items.LifeItem.TheVariants.{Swap}
use Rattle.life_split.specs.Cut.{goes_to, is_swap, lives_of}

-- the items from where a life begins to where it ends
abbrev pub span : List LifeItem → Life → List LifeItem
span items life = slice_range items life.from life.to

-- those of them that go to the slot
abbrev pub given : ℕ → List LifeItem → Life → List LifeItem
given w items life = filter (goes_to w) (span items life)

-- the swap of slot w that ends a life, if one does
abbrev pub swap_at : ℕ → Option ℕ → List LifeItem
swap_at w None = []
swap_at w (Some n) = Swap w ∷ []

-- a life ends with all items, or at a swap of slot w, whose position it has, counted from 1
abbrev pub Ends : ℕ → List LifeItem → ℕ → Option ℕ → Type 0
Ends w items to None = to ≡ length items
Ends w items to (Some n) = (n ≡ to + 1) × (slice_get items to ≡ Some (Swap w))

-- a position lies in a life
abbrev pub holds : ℕ → Life → Bool
holds k life = nat_le life.from k && nat_lt k life.to

-- how many lives of slot w a position lies in
abbrev pub holders : List LifeItem → ℕ → ℕ → ℕ
holders items w k = length (filter (holds k) (lives_of items w))

-- the cut of the items at the swaps of slot w
pub record CutLaws (w : ℕ) (items : List LifeItem) : Type 0 where
  -- the lives and the swaps that end them are all items, in order
  pub whole : flat_map (λ (l : Life). span items l ++ swap_at w l.until) (lives_of items w) ≡ items
  -- what the lives are given is what goes to the slot, in order
  pub all_given : flat_map (given w items) (lives_of items w) ≡ filter (goes_to w) items
  -- an item lies in one life, or in none where it is a swap of the slot
  pub once : (k : ℕ) (i : LifeItem) → slice_get items k ≡ Some i → is_swap w i ≡ false → holders items w k ≡ 1
  pub never : (k : ℕ) (i : LifeItem) → slice_get items k ≡ Some i → is_swap w i ≡ true → holders items w k ≡ 0
  -- where each life ends, and how many there are
  pub ends : All (λ (l : Life). Ends w items l.to l.until) (lives_of items w)
  pub count : length (lives_of items w) ≡ length (filter (is_swap w) items) + 1
