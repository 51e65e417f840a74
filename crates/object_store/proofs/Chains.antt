-- What is found first along a chain.
use Rattle.std.proofs.Common.{◌≡◌, ℕ, zero, suc, List, [], ◌∷◌, length, refl, ap, Option, Some, None, Bool, true, false, if◌then◌else◌, slice_get}
use Rattle.std.specs.List.{find}
use Rattle.std.specs.Option.{option_map_or, option_and_then}
use Rattle.store_cells.specs.Cells.{PlainCell, chain, first_own, has_own, own_value_at, value_of, value_along}
use Rattle.store_cells.specs.Lists.{climb, links}

module _ (name : List ℕ) (cs : List PlainCell) where
  pub first_climbed : (f : ℕ) (at : Option ℕ) → option_and_then (own_value_at cs name) (climb (has_own name) (λ c. c.up) f cs at) ≡ first_own name (links (λ c. c.up) f cs at)
  first_climbed zero at = refl
  first_climbed (suc f) None = refl
  first_climbed (suc f) (Some i) = by (λ o. first_climbed f o) (slice_get cs i) refl
    where
      by : ((o : Option ℕ) → option_and_then (own_value_at cs name) (climb (has_own name) (λ c. c.up) f cs o) ≡ first_own name (links (λ c. c.up) f cs o)) → (o : Option PlainCell) → slice_get cs i ≡ o
          → option_and_then (own_value_at cs name) (option_map_or (λ x. if has_own name x then Some i else climb (has_own name) (λ c. c.up) f cs x.up) o None) ≡ first_own name (option_map_or (λ x. x ∷ links (λ c. c.up) f cs x.up) o [])
      by rest None e = refl
      by rest (Some x) e =
          let P : Bool → Type 0 = λ b. option_and_then (own_value_at cs name) (if b then Some i else climb (has_own name) (λ c. c.up) f cs x.up) ≡ option_and_then (λ c. value_of c.pairs name) (if b then Some x else find (has_own name) (links (λ c. c.up) f cs x.up)) in
          elim (has_own name x) as (λ b. P b) [
            | true ↦ ap (λ (o : Option PlainCell). option_and_then (λ c. value_of c.pairs name) o) e
            | false ↦ rest x.up
          ]

pub along_first : (cs : List PlainCell) (i : ℕ) (name : List ℕ) → value_along cs i name ≡ first_own name (chain cs i)
along_first cs i name = first_climbed name cs (length cs) (Some i)
