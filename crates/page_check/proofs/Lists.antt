-- Of all elements of lists.
use Rattle.std.proofs.Common.{◌≡◌, zero, suc, Bool, true, false, not, ◌&&◌, List, [], ◌∷◌, ◌++◌, map, All, refl, sym, ap, arith}
use Rattle.std.specs.Prelude.{◌||◌}
use Rattle.std.specs.List.{AllByRecursion, IsDistinct, list_any, flat_map}
use Rattle.manifest_shape.specs.Distinct.{distinct}

module _ {X : Type 0} (P : X → Type 0) where
  pub all_none : All P []
  all_none k d within = absurd (omega (arith, within))

  pub all_more : (x : X) (xs : List X) → P x → All P xs → All P (x ∷ xs)
  all_more x xs here others zero d within = here
  all_more x xs here others (suc k) d within = others k d (omega (arith, within))

  pub all_head : (x : X) (xs : List X) → All P (x ∷ xs) → P x
  all_head x xs all = all 0 x (omega arith)

  pub all_tail : (x : X) (xs : List X) → All P (x ∷ xs) → All P xs
  all_tail x xs all = λ k d within. all (suc k) d (omega (arith, within))

-- of what a function gives for each
pub all_of_map : {X Y : Type 0} (P : Y → Type 0) (f : X → Y) (xs : List X) → All P (map f xs) → All (λ x. P (f x)) xs
all_of_map P f [] all = all_none (λ x. P (f x))
all_of_map P f (x ∷ xs) all = all_more (λ y. P (f y)) x xs (all_head P (f x) (map f xs) all) (all_of_map P f xs (all_tail P (f x) (map f xs) all))

pub flat_map_of : {X Y Z : Type 0} (g : Y → List Z) (f : X → Y) (xs : List X) → flat_map (λ x. g (f x)) xs ≡ flat_map g (map f xs)
flat_map_of g f [] = refl
flat_map_of g f (x ∷ xs) = ap (λ zs. g (f x) ++ zs) (flat_map_of g f xs)

-- ## Distinct ones

no_true : {A : Type 0} → false ≡ true → A
no_true e = absurd (by_cases e)
  where
    by_cases : false ≡ true → ⊥
    by_cases e = cc

both_true : (a b : Bool) → (a && b) ≡ true → (a ≡ true) × (b ≡ true)
both_true true b is = (refl, is)
both_true false b is = no_true is

not_true : (a : Bool) → not a ≡ true → a ≡ false
not_true true is = no_true is
not_true false is = refl

neither : (a b : Bool) → (a || b) ≡ false → (a ≡ false) × (b ≡ false)
neither true b is = no_true (sym is)
neither false b is = (refl, is)

module _ {X : Type 0} (same : X → X → Bool) where
  none_is : (p : X → Bool) (xs : List X) → list_any p xs ≡ false → AllByRecursion (λ x. p x ≡ false) xs
  none_is p [] none = tt
  none_is p (x ∷ xs) none =
      let parts = neither (p x) (list_any p xs) none in
      (parts.0, none_is p xs parts.1)

  pub distinct_is : (xs : List X) → distinct same xs ≡ true → IsDistinct same xs
  unfolding IsDistinct
  distinct_is [] is = tt
  distinct_is (x ∷ xs) is =
      let parts = both_true (not (list_any (same x) xs)) (distinct same xs) is in
      (none_is (same x) xs (not_true (list_any (same x) xs) parts.0), distinct_is xs parts.1)
