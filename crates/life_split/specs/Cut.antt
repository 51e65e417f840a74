-- The items of a trace, cut at the swaps of a slot.
use Rattle.std.specs.Prelude.{ℕ, ◌+◌, Bool, false, true, nat_eq, nat_lt, if◌then◌else◌, List, [], ◌∷◌, length, Some, None}
use Rattle.life_split.specs.declared.items.Life.{Life}
use Rattle.life_split.specs.declared.items.LifeItem.{LifeItem}
use Rattle.life_split.specs.declared.items.LifeItem.TheVariants.{To, All, Swap}

-- an item names no slot, or one of so many
abbrev pub is_below : ℕ → LifeItem → Bool
is_below slots (To w) = nat_lt w slots
is_below slots All = true
is_below slots (Swap w) = nat_lt w slots

-- an item goes to slot w
abbrev pub goes_to : ℕ → LifeItem → Bool
goes_to w (To v) = nat_eq v w
goes_to w All = true
goes_to w (Swap v) = false

-- an item is a swap of slot w
abbrev pub is_swap : ℕ → LifeItem → Bool
is_swap w (To v) = false
is_swap w All = false
is_swap w (Swap v) = nat_eq v w

-- the positions of the swaps of slot w among items that begin at position n
abbrev pub swaps_from : ℕ → ℕ → List LifeItem → List ℕ
swaps_from w n [] = []
swaps_from w n (i ∷ is) = if is_swap w i then n ∷ swaps_from w (n + 1) is else swaps_from w (n + 1) is

-- the lives that begin at a position, are ended by swaps at these positions, counted from 1, and the last life, up to the end of all items
abbrev pub cut : ℕ → List ℕ → ℕ → List Life
cut from [] end = record { from = from; to = end; until = None } ∷ []
cut from (p ∷ ps) end = record { from = from; to = p; until = Some (p + 1) } ∷ cut (p + 1) ps end

-- the lives of slot w
abbrev pub lives_of : List LifeItem → ℕ → List Life
lives_of items w = cut 0 (swaps_from w 0 items) (length items)
