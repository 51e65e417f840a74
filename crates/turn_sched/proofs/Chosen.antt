-- The number that a round robin takes.
use Rattle.std.proofs.Common.{◌≡◌, ℕ, suc, ◌<◌, ◌≤◌, Bool, true, false, IsTrue, List, [], ◌∷◌, length, nat_eq, position, slice_index, unwrap_or, All, Option, Some, None, refl, sym, subst, ◌⊎◌, inl, inr, ◌∙◌, arith}
use Rattle.std.proofs.lemmas.Grind.{common_steps}
use Rattle.std.proofs.lemmas.List.Folds.{list_any_at}
use Rattle.std.proofs.lemmas.List.Kept.{AllPairs-from_increasing}
use Rattle.std.proofs.lemmas.List.Quantifiers.{position-Some}
use Rattle.std.proofs.lemmas.List.Sums.{fails_before_first, position_or_len_is}
use Rattle.std.proofs.lemmas.Bool.{cases_lt}
use Rattle.std.proofs.lemmas.Bool.Decides.{nat_tests}
use Rattle.std.proofs.lemmas.Option.{slice_get_within, get_or_from_slice_get}
use Rattle.std.specs.List.{list_any, position_or_len}
use Rattle.std.specs.List.Sorted.{IsStrictlyIncreasing}
use Rattle.code_units.specs.declared.owner.TheConstants.{WIDGETS}
use Rattle.turn_sched.specs.declared.chooser.Ask.{Ask}
use Rattle.turn_sched.specs.Asks.{IsAsk, is_ready}
use Rattle.turn_sched.specs.Turns.{TakesNext, is_above}

-- numbers that rise do not fall
rises : (xs : List ℕ) → IsStrictlyIncreasing xs → (k j : ℕ) → k ≤ j → j < length xs → slice_index xs k ≤ slice_index xs j
rises xs rising k j le within =
    elim (cases_lt k j) as (λ _. slice_index xs k ≤ slice_index xs j) [
      | inl lt ↦ (let below : slice_index xs k < slice_index xs j = AllPairs-from_increasing xs rising k j 0 lt within in omega arith)
      | inr ge ↦ (let same : k ≡ j = omega arith in let P : ℕ → Type 0 = λ n. slice_index xs n ≤ slice_index xs j in subst P (sym same) (omega arith))
    ]

above_or_same : (w x : ℕ) → x ≤ w → (w ≡ x) ⊎ (nat_eq w x ≡ false)
above_or_same w x le = elim (cases_lt x w) as (λ _. (w ≡ x) ⊎ (nat_eq w x ≡ false)) [ inl lt ↦ inr (grind (arith, nat_tests)) | inr ge ↦ inl (omega arith) ]

nat_eq_cases : (w x : ℕ) → (w ≡ x) ⊎ (nat_eq w x ≡ false)
nat_eq_cases w x = elim (cases_lt w x) as (λ _. (w ≡ x) ⊎ (nat_eq w x ≡ false)) [ inl lt ↦ inr (grind (arith, nat_tests)) | inr ge ↦ above_or_same w x ge ]

stands_later : (w x : ℕ) (xs : List ℕ) → ((k : ℕ) × (k < length xs) × (slice_index xs k ≡ w)) → (k : ℕ) × (k < length (x ∷ xs)) × (slice_index (x ∷ xs) k ≡ w)
stands_later w x xs rest = (suc rest.0, omega (arith, rest.1), rest.2)

stands_or : (w x : ℕ) (xs : List ℕ) → list_any (nat_eq w) (x ∷ xs) ≡ true → (list_any (nat_eq w) xs ≡ true → (k : ℕ) × (k < length xs) × (slice_index xs k ≡ w)) → (k : ℕ) × (k < length (x ∷ xs)) × (slice_index (x ∷ xs) k ≡ w)
stands_or w x xs found later =
    elim (nat_eq_cases w x) as (λ _. (k : ℕ) × (k < length (x ∷ xs)) × (slice_index (x ∷ xs) k ≡ w)) [
      | inl same ↦ (0, omega arith, sym same)
      | inr other ↦ stands_later w x xs (later (grind (arith, common_steps)))
    ]

-- a number of a list stands somewhere in it
stands : (w : ℕ) (xs : List ℕ) → list_any (nat_eq w) xs ≡ true → (k : ℕ) × (k < length xs) × (slice_index xs k ≡ w)
stands w [] found = cc
stands w (x ∷ xs) found = stands_or w x xs found (λ rest. stands w xs rest)

-- the number taken is ready
is_taken : (ready : List ℕ) (i : ℕ) (ask : Ask) → All (λ w. w < WIDGETS) ready → IsAsk ready i ask → IsTrue (is_ready ask ask.taken)
is_taken ready i ask below asked =
    let within : i < length ready = slice_get_within ready i ask.taken asked.taken in
    let same : slice_index ready i ≡ ask.taken = get_or_from_slice_get ready i ask.taken 0 asked.taken in
    let small : slice_index ready i < WIDGETS = below i 0 within in
    let fits : ask.taken < WIDGETS = omega arith in
    let found : list_any (nat_eq ask.taken) ready ≡ true = list_any_at (nat_eq ask.taken) ready i 0 within (grind (arith, common_steps)) in
    asked.flags ask.taken fits ∙ found

-- each place of a list comes before the first that passes, where none does
past : (p : ℕ → Bool) (xs : List ℕ) (k : ℕ) → position p xs ≡ None → k < length xs → k < position_or_len p xs
past p xs k none within = grind (arith, common_steps, nat_tests)

-- the first above the last one
pub some_above : (last : Option ℕ) (ready : List ℕ) (i : ℕ) (ask : Ask) → IsStrictlyIncreasing ready → All (λ w. w < WIDGETS) ready → position (is_above last) ready ≡ Some i → IsAsk ready i ask → TakesNext last ask
some_above last ready i ask rising below first asked =
    let at = position-Some (is_above last) ready i 0 first in
    let same : slice_index ready i ≡ ask.taken = get_or_from_slice_get ready i ask.taken 0 asked.taken in
    let passes : is_above last ask.taken ≡ true = subst (λ n. is_above last n ≡ true) same at.1 in
    record {
      taken = is_taken ready i ask below asked;
      above = λ w fits is_in over. passes;
      least_above = λ w fits is_in over.
          (let here = stands w ready (sym (asked.flags w fits) ∙ is_in) in
          let later : i ≤ here.0 =
          elim (cases_lt here.0 i) as (λ _. i ≤ here.0) [
            | inl lt ↦ (let not_over : is_above last (slice_index ready here.0) ≡ false = at.2 here.0 lt in let over_there : is_above last (slice_index ready here.0) ≡ true = subst (λ n. is_above last n ≡ true) (sym here.2) over in cc)
            | inr ge ↦ ge
          ] in
          let up : slice_index ready i ≤ slice_index ready here.0 = rises ready rising i here.0 later here.1 in
          omega (arith, same, here.2));
      least = λ w fits is_in no_one. absurd (no_one passes);
    }

-- none is above the last one
pub none_above : (last : Option ℕ) (ready : List ℕ) (ask : Ask) → IsStrictlyIncreasing ready → All (λ w. w < WIDGETS) ready → position (is_above last) ready ≡ None → IsAsk ready 0 ask → TakesNext last ask
none_above last ready ask rising below none asked =
    let same : slice_index ready 0 ≡ ask.taken = get_or_from_slice_get ready 0 ask.taken 0 asked.taken in
    let never : (w : ℕ) → w < WIDGETS → IsTrue (is_ready ask w) → IsTrue (is_above last w) → ⊥ =
    λ w fits is_in over. (let here = stands w ready (sym (asked.flags w fits) ∙ is_in) in
    let over_there : is_above last (slice_index ready here.0) ≡ true = subst (λ n. is_above last n ≡ true) (sym here.2) over in
    let not_over : is_above last (slice_index ready here.0) ≡ false = fails_before_first (is_above last) ready here.0 0 (past (is_above last) ready here.0 none here.1) in cc) in
    record {
      taken = is_taken ready 0 ask below asked;
      above = λ w fits is_in over. absurd (never w fits is_in over);
      least_above = λ w fits is_in over. absurd (never w fits is_in over);
      least = λ w fits is_in no_one.
          (let here = stands w ready (sym (asked.flags w fits) ∙ is_in) in
          let up : slice_index ready 0 ≤ slice_index ready here.0 = rises ready rising 0 here.0 (omega arith) here.1 in
          omega (arith, same, here.2));
    }

-- where nothing was taken, none is above
pub nowhere : (xs : List ℕ) → position (is_above None) xs ≡ None
nowhere xs = let all = position_or_len_is (is_above None) xs (length xs) 0 (omega arith) (λ k lt. refl) (λ lt. absurd (omega arith)) in grind (arith, common_steps, nat_tests, all)

by_place : (last : Option ℕ) (ready : List ℕ) (ask : Ask) (place : Option ℕ) → IsStrictlyIncreasing ready → All (λ w. w < WIDGETS) ready → position (is_above last) ready ≡ place → IsAsk ready (unwrap_or place 0) ask → TakesNext last ask
by_place last ready ask None rising below is asked = none_above last ready ask rising below is asked
by_place last ready ask (Some i) rising below is asked = some_above last ready i ask rising below is asked

-- the answer of a round robin takes the number that is next
pub takes_next : (last : Option ℕ) (ready : List ℕ) (at : ℕ) (ask : Ask) → IsStrictlyIncreasing ready → All (λ w. w < WIDGETS) ready → at ≡ unwrap_or (position (is_above last) ready) 0 → IsAsk ready at ask → TakesNext last ask
takes_next last ready at ask rising below is asked = by_place last ready ask (position (is_above last) ready) rising below refl (subst (λ n. IsAsk ready n ask) is asked)
