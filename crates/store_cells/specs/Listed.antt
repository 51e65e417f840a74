-- The indices of an Array's elements: those below the first gap, which have their numbers by rule, and a map of others, in
-- a table that may not be made yet. No public clause cites this module.
use Rattle.std.specs.Prelude.{◌≡◌, ℕ, zero, suc, ◌+◌, ◌<◌, ◌≤◌, Box, List, [], ◌∷◌, ◌++◌, Option, None, Some}
use Rattle.std.specs.List.{AllByRecursion}
use Rattle.property_names.specs.declared.names.TheConstants.{FIRST_INDEX, RULED}
use Rattle.store_cells.specs.Numbered.{found_in}

-- so many indices, from one on, with their numbers by rule
abbrev pub by_rule : ℕ → ℕ → List (ℕ × ℕ)
by_rule k zero = []
by_rule k (suc m) = (k, FIRST_INDEX + k) ∷ by_rule (suc k) m

-- the indices below one, and those of a map
abbrev pub joined : ℕ → List (ℕ × ℕ) → List (ℕ × ℕ)
joined upto far = by_rule 0 upto ++ far

-- no index is below one
abbrev pub AreFrom : ℕ → List (ℕ × ℕ) → Type 0
AreFrom m els = AllByRecursion (λ e. m ≤ e.0) els

-- each index is below one
abbrev pub AreBelow : ℕ → List (ℕ × ℕ) → Type 0
AreBelow m els = AllByRecursion (λ e. e.0 < m) els

-- What is kept: the map has no index that is noted by rule.
pub record AreListed (upto : ℕ) (far : List (ℕ × ℕ)) : Type 0 where
  pub from : AreFrom upto far
  pub ruled : upto ≤ RULED

-- An index is the first that is not noted, and has its number by rule.
pub record IsNext (upto : ℕ) (far : List (ℕ × ℕ)) (at n : ℕ) : Type 0 where
  pub next : at ≡ upto
  pub ruled : at < RULED
  pub number : n ≡ FIRST_INDEX + at
  pub absent : found_in far at ≡ None

-- The last index of a map, which is one from n on, is taken out.
pub record IsLastPast (n k : ℕ) (old new : List (ℕ × ℕ)) : Type 0 where
  pub at : ℕ
  pub past : n ≤ at
  pub last : old ≡ new ++ (at, k) ∷ []
  pub below : AreBelow at new

-- The last index by rule, which is one from n on, is taken out.
pub record IsLastRuled (n k old new : ℕ) : Type 0 where
  pub number : k ≡ FIRST_INDEX + new
  pub last : old ≡ suc new
  pub past : n ≤ new

-- the indices of a table
abbrev pub listed : {Z : Type 0} → Option (Box (List (ℕ × ℕ)) Z) → List (ℕ × ℕ)
listed None = []
listed (Some table) = table.value
