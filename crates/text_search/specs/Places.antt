-- Where a text stands in another.
use Rattle.std.specs.Prelude.{◌≡◌, ℕ, ◌+◌, ◌<◌, ◌≤◌, List, length, drop, nat_eq, Bool, true, false, Option, Some, None}
use Rattle.std.specs.List.{filter, starts_with, range_with_len}

-- whether x stands in t at a place
abbrev pub stands : List ℕ → List ℕ → ℕ → Bool
stands t x i = starts_with nat_eq (drop i t) x

-- all places at which x stands in t, rising; the empty text stands at each and at the end
abbrev pub places : List ℕ → List ℕ → List ℕ
places t x = filter (stands t x) (range_with_len 0 (length t + 1))

-- x stands in t at a place within it
pub record Stands (t x : List ℕ) (i : ℕ) : Type 0 where
  pub here : stands t x i ≡ true
  pub within : i + length x ≤ length t

-- x stands in t at none of the places from a to b
abbrev pub NoneFrom : List ℕ → List ℕ → ℕ → ℕ → Type 0
NoneFrom t x a b = (k : ℕ) → a ≤ k → k < b → stands t x k ≡ false

-- the first place at or after `from` at which x stands in t, if any
abbrev pub IsFirst : List ℕ → List ℕ → ℕ → Option ℕ → Type 0
IsFirst t x from (Some i) = (from ≤ i) × Stands t x i × NoneFrom t x from i
IsFirst t x from None = NoneFrom t x from (length t + 1)

-- the last place at or before `to` at which x stands in t, if any
abbrev pub IsLast : List ℕ → List ℕ → ℕ → Option ℕ → Type 0
IsLast t x to (Some i) = (i ≤ to) × Stands t x i × NoneFrom t x (i + 1) (to + 1)
IsLast t x to None = NoneFrom t x 0 (to + 1)
