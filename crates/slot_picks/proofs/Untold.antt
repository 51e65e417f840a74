-- The part of a list from a place on, up to another.
use Rattle.std.proofs.Common.{◌≡◌, ℕ, zero, suc, ◌+◌, ◌-◌, ◌≤◌, List, [], ◌∷◌, length, take, drop, map, refl, sym, ap, ◌∙◌, arith, inl, inr}
use Rattle.std.specs.Prelude.{min}
use Rattle.std.proofs.lemmas.Bool.{cases_lt}
use Rattle.std.proofs.lemmas.List.{length-take, nil_from_length, length-drop, take_all}

take_none : {X : Type 0} (n : ℕ) → take {A = X} n [] ≡ []
take_none zero = refl
take_none (suc n) = refl

take_drop : {X : Type 0} (s n : ℕ) (xs : List X) → take n (drop s xs) ≡ drop s (take (s + n) xs)
take_drop zero n xs = let e : n ≡ 0 + n = omega arith in ap (λ k. take k xs) e
take_drop (suc s) n [] = take_none n ∙ sym (ap (drop (suc s)) (take_none (suc s + n)))
take_drop (suc s) n (x ∷ xs) = let e : suc (s + n) ≡ suc s + n = omega arith in take_drop s n xs ∙ ap (λ k. drop (suc s) (take k (x ∷ xs))) e

past : {X : Type 0} (t : ℕ) (xs : List X) → length xs ≤ t → drop t xs ≡ []
past t xs l = let h = length-drop t xs in nil_from_length (drop t xs) (omega (arith, h, l))

same_take : {X : Type 0} (m e : ℕ) (xs : List X) → e ≡ min (length xs) m → take e xs ≡ take m xs
same_take m e xs is = elim (cases_lt (length xs) m) as (λ _. take e xs ≡ take m xs) [
  | inl lt ↦ take_all e xs (omega (arith, is, lt)) ∙ sym (take_all m xs (omega (arith, lt)))
  | inr ge ↦ ap (λ k. take k xs) (omega (arith, is, ge))
]

pub untold_is : {X : Type 0} (t m e s : ℕ) (xs : List X) → e ≡ min (length xs) m → s ≡ min e t → take (e - s) (drop s xs) ≡ drop t (take m xs)
untold_is t m e s xs end start =
    let whole : s + (e - s) ≡ e = omega (arith, start) in
    take_drop s (e - s) xs ∙ (ap (λ k. drop s (take k xs)) whole ∙ (ap (drop s) (same_take m e xs end) ∙ rest))
  where
    long : length (take m xs) ≡ e
    long = let l = length-take m xs in omega (arith, l, end)

    rest : drop s (take m xs) ≡ drop t (take m xs)
    rest = elim (cases_lt e t) as (λ _. drop s (take m xs) ≡ drop t (take m xs)) [
      | inl lt ↦ past s (take m xs) (omega (arith, long, start, lt)) ∙ sym (past t (take m xs) (omega (arith, long, lt)))
      | inr ge ↦ ap (λ k. drop k (take m xs)) (omega (arith, start, ge))
    ]

pub map_drop : {X Y : Type 0} (f : X → Y) (n : ℕ) (xs : List X) → map f (drop n xs) ≡ drop n (map f xs)
map_drop f zero xs = refl
map_drop f (suc n) [] = refl
map_drop f (suc n) (x ∷ xs) = map_drop f n xs
