-- A sign and what follows it; digits.
use Rattle.std.proofs.Common.{◌≡◌, ℕ, Bool, true, false, cond, ◌&&◌, nat_lt, List, [], ◌∷◌, length, drop, refl, sym, ap, ◌∙◌, subst, lt-ltb, ltb-true, eqb-true}
use Rattle.std.specs.Prelude.{slice_index, ◌==◌}
use Rattle.std.specs.List.{list_all}
use Rattle.std.specs.Char.{digit_value, is_digit}
use Rattle.std.specs.Str.Parse.{IsNumeral, AllDigits, without_leading_sign, starts_with_minus}
use Rattle.code_units.specs.Whole.{is_numeral}
use Rattle.code_units.specs.Readings.{IsSigned, bare, plus, minus}

pub and_both : (a b : Bool) → (a && b) ≡ true → (a ≡ true) × (b ≡ true)
and_both true b e = (refl, e)
and_both false b e = cc

digits_are : (radix : ℕ) (us : List ℕ) → list_all (λ u. is_digit u radix) us ≡ true → AllDigits radix us
digits_are radix [] e = tt
digits_are radix (u ∷ us) e =
    let each = and_both (is_digit u radix) (list_all (λ v. is_digit v radix) us) e in
    (ltb-true (digit_value u) radix each.0, digits_are radix us each.1)

pub are_digits : (radix : ℕ) (us : List ℕ) → AllDigits radix us → list_all (λ u. is_digit u radix) us ≡ true
are_digits radix [] d = refl
are_digits radix (u ∷ us) d = ap (λ b. b && list_all (λ v. is_digit v radix) us) (lt-ltb (digit_value u) radix d.0) ∙ are_digits radix us d.1

pub IsNumeral-from_test : (radix : ℕ) (us : List ℕ) → is_numeral radix us ≡ true → IsNumeral radix us
IsNumeral-from_test radix us e =
    let each = and_both (nat_lt 0 (length us)) (list_all (λ u. is_digit u radix) us) e in
    (ltb-true 0 (length us) each.0, digits_are radix us each.1)

pub test-from_IsNumeral : (radix : ℕ) (us : List ℕ) → IsNumeral radix us → is_numeral radix us ≡ true
test-from_IsNumeral radix us n = λ j. lt-ltb 0 (length us) n.0 j && are_digits radix us n.1 j

-- what follows the sign
pub sign_of : (us : List ℕ) → IsSigned us (without_leading_sign us) (starts_with_minus us)
sign_of [] = bare refl
sign_of (u ∷ us) = by (u == 45) (u == 43) refl refl
  where
    by : (a b : Bool) → (u == 45) ≡ a → (u == 43) ≡ b → IsSigned (u ∷ us) (cond a us (drop (cond b 1 0) (u ∷ us))) a
    by true b e f = minus (ap (λ v. v ∷ us) (eqb-true u 45 e))
    by false true e f = plus (ap (λ v. v ∷ us) (eqb-true u 43 f))
    by false false e f = bare refl

-- a text that begins with no sign
abbrev pub is_unsigned : List ℕ → Type 0
is_unsigned ds = (slice_index ds 0 == 45 ≡ false) × (slice_index ds 0 == 43 ≡ false)

pub sign_is : (us ds : List ℕ) (negative : Bool) → IsSigned us ds negative → is_unsigned ds → (without_leading_sign us ≡ ds) × (starts_with_minus us ≡ negative)
sign_is us ds _ (bare e) none = by (sym e)
  where
    by : ds ≡ us → (without_leading_sign us ≡ ds) × (starts_with_minus us ≡ false)
    by e = subst (λ xs. (without_leading_sign xs ≡ ds) × (starts_with_minus xs ≡ false)) e (ap (λ b. cond b (drop 1 ds) (drop (cond (slice_index ds 0 == 43) 1 0) ds)) none.0 ∙ ap (λ b. drop (cond b 1 0) ds) none.1, none.0)
sign_is us ds _ (plus e) none = subst (λ xs. (without_leading_sign xs ≡ ds) × (starts_with_minus xs ≡ false)) (sym e) (refl, refl)
sign_is us ds _ (minus e) none = subst (λ xs. (without_leading_sign xs ≡ ds) × (starts_with_minus xs ≡ true)) (sym e) (refl, refl)
