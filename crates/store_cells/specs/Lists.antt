-- Words on lists of cells, for cells of any form.
use Rattle.std.specs.Prelude.{ℕ, zero, suc, Bool, List, [], ◌∷◌, Option, None, Some, if◌then◌else◌, slice_get, take}
use Rattle.std.specs.List.{count_by}
use Rattle.std.specs.Option.{option_map_or}

module _ {X : Type 0} (has : X → Bool) (up : X → Option ℕ) where
  -- the place of the first element that has it, from a place on upwards, within so many steps
  abbrev pub climb : ℕ → List X → Option ℕ → Option ℕ
  climb zero xs at = None
  climb (suc f) xs None = None
  climb (suc f) xs (Some i) = option_map_or (λ x. if has x then Some i else climb f xs (up x)) (slice_get xs i) None

module _ {X : Type 0} (up : X → Option ℕ) where
  -- the elements from a place on upwards, within so many steps
  abbrev pub links : ℕ → List X → Option ℕ → List X
  links zero xs at = []
  links (suc f) xs None = []
  links (suc f) xs (Some i) = option_map_or (λ x. x ∷ links f xs (up x)) (slice_get xs i) []

-- the list with f of the element at a place in its place
abbrev pub changed : {X : Type 0} → List X → ℕ → (X → X) → List X
changed [] i f = []
changed (x ∷ xs) zero f = f x ∷ xs
changed (x ∷ xs) (suc i) f = x ∷ changed xs i f

-- how many elements before a place pass the test
abbrev pub count_before : {X : Type 0} → (X → Bool) → List X → ℕ → ℕ
count_before p xs i = count_by p (take i xs)
