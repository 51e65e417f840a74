-- The names of properties as one list, in which a name's number is its place: two words, the array indices below a
-- bound, and the names that were interned.
use Rattle.std.specs.Prelude.{◌≡◌, ℕ, zero, suc, ◌-◌, ◌+◌, ◌≤◌, List, [], ◌∷◌, ◌++◌, Option, None, Some, codes, if◌then◌else◌, length, nat_lt, nat_le, ◌&&◌, slice_get}
use Rattle.std.specs.Fmt.{decimal}
use Rattle.std.specs.List.{AllByRecursion}
use Rattle.std.specs.Option.{option_and_then}
use Rattle.code_units.specs.Indices.{index_of}
use Rattle.keyed_names.specs.Interned.{IsTable}
use Rattle.property_names.specs.declared.names.TheConstants.{FIRST_INDEX, RULED}

-- the decimal texts of so many numbers, from one on
abbrev pub decimals : ℕ → ℕ → List (List ℕ)
decimals k zero = []
decimals k (suc m) = decimal k ∷ decimals (suc k) m

-- the array indices below the bound
unfoldable pub indices : List (List ℕ)
indices = decimals 0 RULED

-- all names, of those that are interned: behind the first two stand the indices
abbrev pub seen : List (List ℕ) → List (List ℕ)
seen [] = []
seen (x ∷ []) = x ∷ []
seen (x ∷ y ∷ rest) = x ∷ y ∷ (indices ++ rest)

-- the index that a name is, where it is below the bound
abbrev pub below_bound : ℕ → Option ℕ
below_bound i = if nat_lt i RULED then Some i else None

abbrev pub ruled_index : List ℕ → Option ℕ
ruled_index name = option_and_then below_bound (index_of name)

-- the index with a number, where it has that by rule
abbrev pub ruled_number : ℕ → Option ℕ
ruled_number n = if nat_le FIRST_INDEX n && nat_lt (n - FIRST_INDEX) RULED then Some (n - FIRST_INDEX) else None

-- the number of the interned name at a place, and back
abbrev pub shifted : ℕ → ℕ
shifted p = if nat_lt p FIRST_INDEX then p else p + RULED

abbrev pub place_of : ℕ → ℕ
place_of n = if nat_lt n FIRST_INDEX then n else n - RULED

-- the two words stand first
abbrev pub HasWords : List (List ℕ) → Type 0
HasWords names = (slice_get names 0 ≡ Some (codes "length")) × (slice_get names 1 ≡ Some (codes "___nodes___"))

-- the names that are interned at first
abbrev pub first_keys : List (List ℕ)
first_keys = codes "length" ∷ codes "___nodes___" ∷ []

-- What is interned: the words and names that are no indices below the bound.
pub record AreOthers (keys : List (List ℕ)) : Type 0 where
  pub table : IsTable keys
  pub words : HasWords keys
  pub others : AllByRecursion (λ k. ruled_index k ≡ None) keys
  pub room : length keys ≤ RULED
