-- What runs of a kind say of a text.
use Rattle.std.proofs.Common.{◌≡◌, ℕ, zero, suc, ◌+◌, ◌*◌, ◌<◌, ◌≤◌, Bool, true, false, cond, ◌&&◌, nat_lt, List, [], ◌∷◌, length, take, drop, get_or, refl, sym, ap, ◌∙◌, arith, eqb-true, ne_eqb, subst, ltb-true, lt-ltb, take-append-drop, ◌⊎◌, inl, inr}
use Rattle.std.specs.Prelude.{◌==◌, slice_index}
use Rattle.std.specs.List.{list_all, prefix_len}
use Rattle.std.specs.Char.{digit_value, is_digit}
use Rattle.std.specs.Str.Parse.{AllDigits, digits_value}
use Rattle.std.proofs.lemmas.List.Folds.{list_all-append}
use Rattle.std.proofs.lemmas.List.Sums.{prefix_len-le-length, prefix_len_passes}
use Rattle.std.proofs.lemmas.Bool.{true≢false}
use Rattle.std.proofs.lemmas.Bool.Decides.{nat_tests}
use Rattle.std.proofs.lemmas.Int.Digits.{digits_value_more}
use Rattle.code_units.specs.Whole.{is_numeral}
use Rattle.code_units.proofs.Fractions.{and_false}
use Rattle.code_units.proofs.Numerals.{digits_more}

shift : (n m : ℕ) → (1 + n == suc m) ≡ (n == m)
shift n m = grind (arith, nat_tests)

-- all pass where the run is as long as the list
pub all_run : (p : ℕ → Bool) (us : List ℕ) → (prefix_len p us == length us) ≡ list_all p us
all_run p [] = refl
all_run p (u ∷ us) = by (p u) (all_run p us)
  where
    by : (b : Bool) → (prefix_len p us == length us) ≡ list_all p us → (cond b (1 + prefix_len p us) 0 == length (u ∷ us)) ≡ (b && list_all p us)
    by true e = shift (prefix_len p us) (length us) ∙ e
    by false e = ne_eqb 0 (length (u ∷ us)) (λ (h : 0 ≡ length (u ∷ us)). omega (arith, h))

-- the same for a test by another name
pub all_same : (p q : ℕ → Bool) → ((u : ℕ) → p u ≡ q u) → (us : List ℕ) → (prefix_len p us == length us) ≡ list_all q us
all_same p q same us = all_run p us ∙ (λ j. list_all (λ u. same u j) us)

-- the digits that a text begins with, and what stands behind them
pub digits_taken : (us : List ℕ) → AllDigits 10 (take (prefix_len (λ u. is_digit u 10) us) us)
digits_taken [] = tt
digits_taken (u ∷ us) = by (is_digit u 10) refl (digits_taken us)
  where
    by : (b : Bool) → is_digit u 10 ≡ b → AllDigits 10 (take (prefix_len (λ v. is_digit v 10) us) us) → AllDigits 10 (take (cond b (1 + prefix_len (λ v. is_digit v 10) us) 0) (u ∷ us))
    by true e rest =
        let one : suc (prefix_len (λ v. is_digit v 10) us) ≡ 1 + prefix_len (λ v. is_digit v 10) us = omega arith in
        subst (λ n. AllDigits 10 (take n (u ∷ us))) one (ltb-true (digit_value u) 10 e, rest)
    by false e rest = tt

pub digits_end : (us : List ℕ) → is_digit (slice_index (drop (prefix_len (λ u. is_digit u 10) us) us) 0) 10 ≡ false
digits_end [] = refl
digits_end (u ∷ us) = by (is_digit u 10) refl (digits_end us)
  where
    by : (b : Bool) → is_digit u 10 ≡ b → is_digit (slice_index (drop (prefix_len (λ v. is_digit v 10) us) us) 0) 10 ≡ false → is_digit (slice_index (drop (cond b (1 + prefix_len (λ v. is_digit v 10) us) 0) (u ∷ us)) 0) 10 ≡ false
    by true e rest =
        let one : suc (prefix_len (λ v. is_digit v 10) us) ≡ 1 + prefix_len (λ v. is_digit v 10) us = omega arith in
        subst (λ n. is_digit (slice_index (drop n (u ∷ us)) 0) 10 ≡ false) one rest
    by false e rest = e

-- the digit 0 at a place of their run
zero_at : (us : List ℕ) (i : ℕ) → i < prefix_len (λ u. u == 48) us → get_or us i 0 ≡ 48
zero_at us i lt = eqb-true (get_or us i 0) 48 (prefix_len_passes (λ u. u == 48) us i 0 lt)

pub some_units : (b : Bool) (us : List ℕ) → b ≡ (length us == 0) → b ≡ false → 0 < length us
some_units b [] e none = absurd (true≢false (sym e ∙ none))
some_units b (u ∷ us) e none = omega arith

pub some_radix : (radix : ℕ) → (radix ≡ 10) ⊎ (radix ≡ 16) → 1 ≤ radix
some_radix radix r = elim r [ inl ten ↦ omega (arith, ten) | inr sixteen ↦ omega (arith, sixteen) ]

-- digits 0 alone are digits, and are 0
pub zero_digits : (radix : ℕ) (us : List ℕ) (i : ℕ) → 0 < radix → i ≤ prefix_len (λ u. u == 48) us → list_all (λ u. is_digit u radix) (take i us) ≡ true
zero_digits radix us zero some le = refl
zero_digits radix us (suc i) some le =
    let within : i < length us = omega (arith, le, prefix_len-le-length (λ u. u == 48) us) in
    let next : suc i ≡ i + 1 = omega arith in
    let value : digit_value (get_or us i 0) ≡ 0 = ap digit_value (zero_at us i (omega (arith, le))) in
    ap (λ n. list_all (λ u. is_digit u radix) (take n us)) next ∙ digits_more radix us i within (omega (arith, value, some)) (zero_digits radix us i some (omega (arith, le)))

pub zero_value : (radix : ℕ) (us : List ℕ) (i : ℕ) → i ≤ prefix_len (λ u. u == 48) us → digits_value radix (take i us) ≡ 0
zero_value radix us zero le = refl
zero_value radix us (suc i) le =
    let within : i < length us = omega (arith, le, prefix_len-le-length (λ u. u == 48) us) in
    let next : suc i ≡ i + 1 = omega arith in
    ap (λ n. digits_value radix (take n us)) next
    ∙ digits_value_more radix us i within
    ∙ (λ j. zero_value radix us i (omega (arith, le)) j * radix + digit_value (zero_at us i (omega (arith, le)) j))
    ∙ (let none : 0 * radix + 0 ≡ 0 = omega arith in none)

-- behind digits, digits decide
pub digits_behind : (radix : ℕ) (us : List ℕ) (i : ℕ) → list_all (λ u. is_digit u radix) (take i us) ≡ true → list_all (λ u. is_digit u radix) us ≡ list_all (λ u. is_digit u radix) (drop i us)
digits_behind radix us i front =
    sym (ap (list_all (λ u. is_digit u radix)) (take-append-drop i us))
    ∙ list_all-append (λ u. is_digit u radix) (take i us) (drop i us)
    ∙ ap (λ b. b && list_all (λ u. is_digit u radix) (drop i us)) front

pub numeral_from : (radix : ℕ) (us : List ℕ) → 0 < length us → list_all (λ u. is_digit u radix) us ≡ true → is_numeral radix us ≡ true
numeral_from radix us some all = λ j. lt-ltb 0 (length us) some j && all j

pub no_numeral_from : (radix : ℕ) (us : List ℕ) → list_all (λ u. is_digit u radix) us ≡ false → is_numeral radix us ≡ false
no_numeral_from radix us none = ap (λ b. nat_lt 0 (length us) && b) none ∙ and_false (nat_lt 0 (length us))
