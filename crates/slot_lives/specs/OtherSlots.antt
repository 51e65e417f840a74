-- The other slots of a swap.
use Rattle.std.specs.Prelude.{◌≡◌, ℕ, ◌+◌, nat_le, if◌then◌else◌, List, ◌∷◌, ◌++◌, map, length, None}
use Rattle.trace_reader.specs.Said.{Said}
use Rattle.slot_lives.specs.Lives.{Life, lives, last_life, ended_at}

-- where an item is left out behind so many, a position counted from 1 among the others, and the same in the whole trace
abbrev pub moved : ℕ → ℕ → ℕ
moved many n = if nat_le n many then n else n + 1

-- a life without the position of the swap that ends it
abbrev pub unended : {A : Type 0} → Life A → Life A
unended life = record { runs = life.runs; items = life.items; until = None }

-- Where an item, which is a swap of another slot that brings x, is left out of a trace: the slot with number w has the same last life, and the same lives were ended, by the same swaps.
pub record OtherSlotLaws {A : Type 0} (first x : A) (before after : List A) (front back : List Said) (i : Said) (w : ℕ) : Type 0 where
  pub last : last_life first (before ++ x ∷ after) (front ++ i ∷ back) w ≡ last_life first (before ++ after) (front ++ back) w
  pub ended : (p : ℕ) → map unended (ended_at (moved (length front) (p + 1)) (lives first (before ++ x ∷ after) (front ++ i ∷ back) w)) ≡ map unended (ended_at (p + 1) (lives first (before ++ after) (front ++ back) w))
