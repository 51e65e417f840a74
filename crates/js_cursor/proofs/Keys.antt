-- Numbers that may be keys, digit by digit.
use Rattle.std.proofs.Common.{◌≡◌, ℕ, ◌+◌, ◌*◌, ◌-◌, ◌<◌, ◌≤◌, List, [], ◌∷◌, length, drop, get_or, Bool, true, false, ◌&&◌, refl, sym, ◌∙◌, arith, add-one, drop-cons}
use Rattle.std.specs.Prelude.{nat_le, nat_eq, ◌⊎◌}
use Rattle.std.proofs.Common.{inl, inr}
use Rattle.std.proofs.lemmas.Bool.Decides.{nat_tests}
use Rattle.js_grammar.specs.Tables.{is_whole, is_digit, are_digits, decimal}

-- what is left of the test behind a number of digits
abbrev pub rest_whole : ℕ → List ℕ → Bool
rest_whole n us = are_digits us && nat_le (decimal n us) 9007199254740991

pub record WholeSoFar (units : List ℕ) (i n : ℕ) : Type 0 where
  pub small : n ≤ 9007199254740991
  pub rest : is_whole units ≡ rest_whole n (drop i units)

pub zero_first : (us : List ℕ) → 1 < length us → get_or us 0 0 ≡ 48 → false ≡ is_whole us
zero_first [] lt e = absurd (omega (arith, lt))
zero_first (u ∷ []) lt e = absurd (omega (arith, lt))
zero_first (u ∷ v ∷ us) lt e = let zero_there : nat_eq u 48 ≡ true = grind (arith, nat_tests) in rw zero_there (and_false (are_digits (u ∷ v ∷ us)))
  where
    and_false : (b : Bool) → false ≡ (b && false)
    and_false true = refl
    and_false false = refl

grows : (n : ℕ) (us : List ℕ) → n ≤ decimal n us
grows n [] = omega arith
grows n (u ∷ us) = omega (arith, grows (n * 10 + (u - 48)) us)

not_digit : (u : ℕ) → (u < 48) ⊎ (57 < u) → is_digit u ≡ false
not_digit u (inl h) = grind (arith, nat_tests)
not_digit u (inr h) = grind (arith, nat_tests)

digit : (u : ℕ) → 48 ≤ u → u ≤ 57 → is_digit u ≡ true
digit u a b = grind (arith, nat_tests)

module _ (us : List ℕ) (i n : ℕ) (lt : i < length us) (h : WholeSoFar us i n) where
  next_digit : drop i us ≡ get_or us i 0 ∷ drop (i + 1) us
  next_digit = rw (add-one, drop-cons us i 0) refl

  pub stops : (get_or us i 0 < 48) ⊎ (57 < get_or us i 0) → false ≡ is_whole us
  stops d = let none = not_digit (get_or us i 0) d in sym (h.rest ∙ rw (next_digit, none) refl)

  step : 48 ≤ get_or us i 0 → get_or us i 0 ≤ 57 → is_whole us ≡ rest_whole (n * 10 + (get_or us i 0 - 48)) (drop (i + 1) us)
  step a b = let one = digit (get_or us i 0) a b in h.rest ∙ rw (next_digit, one) refl

  pub goes_past : 48 ≤ get_or us i 0 → get_or us i 0 ≤ 57 → 9007199254740991 < n * 10 + (get_or us i 0 - 48) → false ≡ is_whole us
  goes_past a b past =
      let m = n * 10 + (get_or us i 0 - 48) in
      let larger = grows m (drop (i + 1) us) in
      let none : nat_le (decimal m (drop (i + 1) us)) 9007199254740991 ≡ false = grind (arith, nat_tests) in
      sym (step a b ∙ rw none (and_false (are_digits (drop (i + 1) us))))
    where
      and_false : (b : Bool) → (b && false) ≡ false
      and_false true = refl
      and_false false = refl

  pub goes_on : 48 ≤ get_or us i 0 → get_or us i 0 ≤ 57 → n * 10 + (get_or us i 0 - 48) ≤ 9007199254740991 → WholeSoFar us (i + 1) (n * 10 + (get_or us i 0 - 48))
  goes_on a b small = record { small = small; rest = step a b }

pub whole_end : (us : List ℕ) (n : ℕ) → WholeSoFar us (length us) n → true ≡ is_whole us
whole_end us n h = let small : nat_le n 9007199254740991 ≡ true = grind (arith, nat_tests, h.small) in sym (h.rest ∙ rw (all_dropped us, small) refl)
  where
    all_dropped : (l : List ℕ) → drop (length l) l ≡ []
    all_dropped [] = refl
    all_dropped (t ∷ l) = all_dropped l
