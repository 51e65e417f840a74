-- Ranges of units.
use Rattle.std.proofs.Common.{◌≡◌, ℕ, zero, suc, ◌+◌, ◌-◌, ◌<◌, ◌≤◌, List, [], ◌∷◌, ◌++◌, refl, ap, ◌∙◌, length, take, drop, get_or, arith, length-drop, add-one}
use Rattle.std.proofs.Math.Seq.{drop-cons}
use Rattle.std.specs.Prelude.{slice_range}
use Rattle.std.proofs.lemmas.List.{take_all, drop_all, length-take-le}

pub range_rest : (us : List ℕ) (i : ℕ) → slice_range us i (length us) ≡ drop i us
range_rest us i = take_all (length us - i) (drop i us) (omega (arith, length-drop i us))

take_one_more : (n : ℕ) (us : List ℕ) → n < length us → take (suc n) us ≡ take n us ++ get_or us n 0 ∷ []
take_one_more n [] lt = absurd (omega (arith, lt))
take_one_more zero (u ∷ us) lt = refl
take_one_more (suc n) (u ∷ us) lt = ap (λ l. u ∷ l) (take_one_more n us (omega (arith, lt)))

get_or_drop : (i n : ℕ) (us : List ℕ) → get_or (drop i us) n 0 ≡ get_or us (i + n) 0
get_or_drop zero n us = let e : 0 + n ≡ n = omega arith in rw e refl
get_or_drop (suc i) n [] = refl
get_or_drop (suc i) n (u ∷ us) = let e : suc i + n ≡ suc (i + n) = omega arith in rw e (get_or_drop i n us)

pub range_more : (us : List ℕ) (i j : ℕ) → i ≤ j → j < length us → slice_range us i (j + 1) ≡ slice_range us i j ++ get_or us j 0 ∷ []
range_more us i j le lt =
    let n : (j + 1) - i ≡ suc (j - i) = omega (arith, le) in
    let there : i + (j - i) ≡ j = omega (arith, le) in
    let more = take_one_more (j - i) (drop i us) (omega (arith, length-drop i us, le, lt)) in
    rw n (more ∙ ap (λ x. take (j - i) (drop i us) ++ x ∷ []) (get_or_drop i (j - i) us ∙ ap (λ k. get_or us k 0) there))

pub range_none : (us : List ℕ) (i : ℕ) → slice_range us i i ≡ []
range_none us i = let none : i - i ≡ 0 = omega arith in rw none refl

-- the unit at a place, and those behind it
pub unit_at : (us : List ℕ) (i : ℕ) → i < length us → drop i us ≡ get_or us i 0 ∷ drop (i + 1) us
unit_at us i lt = rw add-one (drop-cons us i 0 lt)

pub no_unit_at : (us : List ℕ) (i : ℕ) → length us ≤ i → drop i us ≡ []
no_unit_at us i le = drop_all i us le

pub left_at : (us : List ℕ) (i : ℕ) → i ≤ length us → i + length (drop i us) ≡ length us
left_at us i le = omega (arith, length-drop i us, le)

pub range_some : (us : List ℕ) (i j : ℕ) → i < j → j ≤ length us → 0 < length (slice_range us i j)
range_some us i j lt le = omega (arith, length-take-le (j - i) (drop i us) (omega (arith, length-drop i us, le)), lt)
