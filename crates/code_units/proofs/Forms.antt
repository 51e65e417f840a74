-- The function that reads a text gives what its form says.
use Rattle.std.proofs.Common.{◌≡◌, ℕ, ◌^◌, ◌<◌, Bool, true, false, ◌&&◌, ℤ, pos, neg_ℤ, nat_lt, List, [], ◌∷◌, length, drop, if◌then◌else◌, refl, sym, ap, ◌∙◌, subst, arith, inl, inr, ltb-true, ltb-false, eqb-true, ne_eqb, lit<}
use Rattle.std.specs.Prelude.{◌||◌, ◌==◌, codes, unsigned_abs}
use Rattle.std.specs.Char.{is_digit}
use Rattle.std.specs.Str.{bytes_eq}
use Rattle.std.specs.Str.Parse.{digits_value, without_leading_sign, starts_with_minus, signed_digits_value}
use Rattle.std.proofs.lemmas.Bool.{false≢true}
use Rattle.std.proofs.lemmas.Slice.Eq.{bytes_eq-Decides}
use Rattle.code_units.specs.declared.whole.WholeRead.TheVariants.{Whole, NotNumber, Left}
use Rattle.code_units.specs.Whole.{bounded, is_x, is_e, is_point, is_numeral, is_fraction, is_hexadecimal, number_of}
use Rattle.code_units.specs.Readings.{IsSigned, bare, plus, minus, SpellsWhole, nothing, decimal, hexadecimal, SpellsOther, infinity, fraction, Gives}
use Rattle.code_units.proofs.Signs.{and_both, test-from_IsNumeral, IsNumeral-from_test, sign_of, sign_is}
use Rattle.code_units.proofs.Fractions.{test-from_fraction, fraction-from_test, unsigned_digits, unsigned_fraction, not_numeral, no_numeral, hexadecimal_apart}

-- a text with something after its sign has units
filled : (us ds : List ℕ) (negative : Bool) → IsSigned us ds negative → 0 < length ds → length us == 0 ≡ false
filled us ds _ (bare e) some = ne_eqb (length us) 0 (omega (arith, ap length e))
filled us ds _ (plus e) some = ne_eqb (length us) 0 (omega (arith, ap length e))
filled us ds _ (minus e) some = ne_eqb (length us) 0 (omega (arith, ap length e))

or_true : (b : Bool) → (b || true) ≡ true
or_true true = refl
or_true false = refl

-- `x` and `X` are no digits and stand in no fraction
x_apart : (x : ℕ) → is_x x ≡ true → (is_point x ≡ false) × (is_e x ≡ false) × (is_digit x 10 ≡ false)
x_apart x is = by (x == 120) (x == 88) refl refl is
  where
    by : (a b : Bool) → x == 120 ≡ a → x == 88 ≡ b → (a || b) ≡ true → (is_point x ≡ false) × (is_e x ≡ false) × (is_digit x 10 ≡ false)
    by true b small large is = subst (λ c. (is_point c ≡ false) × (is_e c ≡ false) × (is_digit c 10 ≡ false)) (sym (eqb-true x 120 small)) (refl, refl, refl)
    by false true small large is = subst (λ c. (is_point c ≡ false) × (is_e c ≡ false) × (is_digit c 10 ≡ false)) (sym (eqb-true x 88 large)) (refl, refl, refl)
    by false false small large is = cc

-- each form gives its number
pub number_spelled : (us : List ℕ) (z : ℤ) → SpellsWhole us z → number_of us ≡ bounded z
number_spelled us _ (nothing e) = subst (λ xs. number_of xs ≡ Whole (pos 0)) (sym e) refl
number_spelled us _ (decimal negative ds s n) =
    let after = sign_is us ds negative s (unsigned_digits ds n) in
    let some = filled us ds negative s n.0 in
    let digits : is_numeral 10 (without_leading_sign us) ≡ true = ap (is_numeral 10) after.0 ∙ test-from_IsNumeral 10 ds n in
    rw (some, digits) (λ j. bounded (if after.1 j then neg_ℤ (pos (digits_value 10 (after.0 j))) else pos (digits_value 10 (after.0 j))))
number_spelled us _ (hexadecimal x ds is e n) = subst (λ xs. number_of xs ≡ bounded (pos (digits_value 16 ds))) (sym e) (
    let apart = x_apart x is in
    let some : length (48 ∷ x ∷ ds) == 0 ≡ false = ne_eqb (length (48 ∷ x ∷ ds)) 0 (omega arith) in
    let digits : is_numeral 10 (48 ∷ x ∷ ds) ≡ false = no_numeral (48 ∷ []) x ds apart.2 in
    let whole : is_fraction (48 ∷ x ∷ ds) ≡ false = hexadecimal_apart x ds apart.0 apart.1 apart.2 in
    let letters : is_hexadecimal (48 ∷ x ∷ ds) ≡ true = (λ j. is j && test-from_IsNumeral 16 ds n j) in
    rw (some, digits, whole, letters) refl)

pub number_other : (us : List ℕ) → SpellsOther us → number_of us ≡ Left
number_other us (infinity negative s) =
    let after = sign_is us (codes "Infinity") negative s (refl, refl) in
    let some = filled us (codes "Infinity") negative s (lit< tt) in
    let digits : is_numeral 10 (without_leading_sign us) ≡ false = ap (is_numeral 10) after.0 in
    let word : bytes_eq (without_leading_sign us) (codes "Infinity") ≡ true = ap (λ xs. bytes_eq xs (codes "Infinity")) after.0 in
    rw (some, digits, word) refl
number_other us (fraction negative ds s f) =
    let begin = unsigned_fraction ds f in
    let after = sign_is us ds negative s begin.0 in
    let some = filled us ds negative s begin.1 in
    let digits : is_numeral 10 (without_leading_sign us) ≡ false = ap (is_numeral 10) after.0 ∙ not_numeral ds f in
    let whole : is_fraction (without_leading_sign us) ≡ true = ap is_fraction after.0 ∙ test-from_fraction ds f in
    rw (some, digits, whole) (ap (λ b. if b then Left else (if is_hexadecimal us then bounded (pos (digits_value 16 (drop 2 us))) else NotNumber)) (or_true (bytes_eq (without_leading_sign us) (codes "Infinity"))))

-- a whole number that was read is within the numbers or has left them
within : (us : List ℕ) (z : ℤ) → SpellsWhole us z → Gives us (bounded z)
within us z s = by (nat_lt (unsigned_abs z) (2 ^ 53)) refl
  where
    by : (b : Bool) → nat_lt (unsigned_abs z) (2 ^ 53) ≡ b → Gives us (if b then Whole z else Left)
    by true e = (s, ltb-true (unsigned_abs z) (2 ^ 53) e)
    by false e = inl (z, s, ltb-false (unsigned_abs z) (2 ^ 53) e)

-- no form, where the text is read as no number
no_form : (us : List ℕ) → number_of us ≡ NotNumber → Gives us NotNumber
no_form us e = (λ z s. none (nat_lt (unsigned_abs z) (2 ^ 53)) z (sym e ∙ number_spelled us z s), λ o. other (sym e ∙ number_other us o))
  where
    none : (b : Bool) (z : ℤ) → NotNumber ≡ (if b then Whole z else Left) → ⊥
    none true z e = cc
    none false z e = cc

    other : NotNumber ≡ Left → ⊥
    other e = cc

empty : (us : List ℕ) → length us ≡ 0 → us ≡ []
empty [] e = refl
empty (u ∷ us) e = absurd (omega arith)

in_hexadecimal : (us : List ℕ) → is_hexadecimal us ≡ true → SpellsWhole us (pos (digits_value 16 (drop 2 us)))
in_hexadecimal [] e = absurd (false≢true e)
in_hexadecimal (u ∷ []) e = absurd (false≢true (and_both (u == 48) false (and_both (u == 48 && false) (is_numeral 16 []) e).0).1)
in_hexadecimal (u ∷ x ∷ ds) e =
    let parts = and_both (u == 48 && is_x x) (is_numeral 16 ds) e in
    let heads = and_both (u == 48) (is_x x) parts.0 in
    hexadecimal x ds heads.1 (ap (λ v. v ∷ x ∷ ds) (eqb-true u 48 heads.0)) (IsNumeral-from_test 16 ds parts.1)

-- the function gives what the form of the text says, whatever the text
pub gives : (us : List ℕ) → Gives us (number_of us)
gives us = by (length us == 0) (is_numeral 10 (without_leading_sign us)) (bytes_eq (without_leading_sign us) (codes "Infinity")) (is_fraction (without_leading_sign us)) (is_hexadecimal us) refl refl refl refl refl
  where
    by : (a b c d e : Bool) → length us == 0 ≡ a → is_numeral 10 (without_leading_sign us) ≡ b → bytes_eq (without_leading_sign us) (codes "Infinity") ≡ c → is_fraction (without_leading_sign us) ≡ d → is_hexadecimal us ≡ e
        → Gives us (if a then Whole (pos 0) else if b then bounded (signed_digits_value 10 us) else if c || d then Left else if e then bounded (pos (digits_value 16 (drop 2 us))) else NotNumber)
    by true b c d e ha hb hc hd he = (nothing (empty us (eqb-true (length us) 0 ha)), lit< tt)
    by false true c d e ha hb hc hd he = within us (signed_digits_value 10 us) (decimal (starts_with_minus us) (without_leading_sign us) (sign_of us) (IsNumeral-from_test 10 (without_leading_sign us) hb))
    by false false true d e ha hb hc hd he = inr (infinity (starts_with_minus us) (subst (λ xs. IsSigned us xs (starts_with_minus us)) ((bytes_eq-Decides (without_leading_sign us) (codes "Infinity")).0 hc) (sign_of us)))
    by false false false true e ha hb hc hd he = inr (fraction (starts_with_minus us) (without_leading_sign us) (sign_of us) (fraction-from_test (without_leading_sign us) hd))
    by false false false false true ha hb hc hd he = within us (pos (digits_value 16 (drop 2 us))) (in_hexadecimal us he)
    by false false false false false ha hb hc hd he = no_form us (rw (ha, hb, hc, hd, he) refl)
