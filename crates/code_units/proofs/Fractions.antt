-- A decimal literal that has a point or an exponent.
use Rattle.std.proofs.Common.{◌≡◌, ℕ, ◌<◌, ◌≤◌, Bool, true, false, ◌&&◌, List, [], ◌∷◌, ◌++◌, length, if◌then◌else◌, refl, sym, ap, ◌∙◌, subst, arith, append-nil, append_assoc, ne_eqb, eqb-true, lit≤}
use Rattle.std.specs.Prelude.{◌||◌, ◌==◌, not, nat_lt, cond}
use Rattle.std.specs.List.{list_any, list_all, before_first, after_first}
use Rattle.std.specs.Char.{digit_value, is_digit}
use Rattle.std.specs.Str.Parse.{without_leading_sign, starts_with_minus, IsNumeral, AllDigits}
use Rattle.std.proofs.lemmas.List.Folds.{list_any-append, list_all-append}
use Rattle.std.proofs.lemmas.List.Sums.{take_while-cons}
use Rattle.code_units.specs.Whole.{is_e, is_point, is_numeral, is_mantissa, is_fraction}
use Rattle.code_units.specs.Readings.{IsExponent, exponent, IsDecimalFraction, point, point_power, power}
use Rattle.code_units.proofs.Cuts.{first_cut, uncut, around_first}
use Rattle.code_units.proofs.Signs.{and_both, test-from_IsNumeral, IsNumeral-from_test, sign_of, sign_is, is_unsigned}

-- no digit is `.`, `e` or `E`
pub no_digit : (p : ℕ → Bool) → ((c : ℕ) → digit_value c < 10 → p c ≡ false) → (ds : List ℕ) → AllDigits 10 ds → list_any p ds ≡ false
no_digit p apart [] d = refl
no_digit p apart (c ∷ ds) d = ap (λ b. b || list_any p ds) (apart c d.0) ∙ no_digit p apart ds d.1

differs : (c n : ℕ) → digit_value c < 10 → 10 ≤ digit_value n → c == n ≡ false
differs c n d far = ne_eqb c n (λ e. omega (arith, d, far, ap digit_value e))

pub point_apart : (c : ℕ) → digit_value c < 10 → is_point c ≡ false
point_apart c d = differs c 46 d (lit≤ tt)

pub e_apart : (c : ℕ) → digit_value c < 10 → is_e c ≡ false
e_apart c d = λ j. differs c 101 d (lit≤ tt) j || differs c 69 d (lit≤ tt) j

-- digits, part by part
digits_left : (xs ys : List ℕ) → AllDigits 10 (xs ++ ys) → AllDigits 10 xs
digits_left [] ys d = tt
digits_left (x ∷ xs) ys d = (d.0, digits_left xs ys d.1)

digits_right : (xs ys : List ℕ) → AllDigits 10 (xs ++ ys) → AllDigits 10 ys
digits_right [] ys d = d
digits_right (x ∷ xs) ys d = digits_right xs ys d.1

pub no_e_around : (whole part : List ℕ) → AllDigits 10 (whole ++ part) → list_any is_e (whole ++ (46 ∷ part)) ≡ false
no_e_around whole part d =
    list_any-append is_e whole (46 ∷ part)
    ∙ (λ j. no_digit is_e e_apart whole (digits_left whole part d) j || no_digit is_e e_apart part (digits_right whole part d) j)

-- digits with a point among them, and digits, are mantissas
pointed : (whole part : List ℕ) → IsNumeral 10 (whole ++ part) → is_mantissa (whole ++ (46 ∷ part)) ≡ true
pointed whole part n =
    let cut = first_cut is_point whole 46 part (no_digit is_point point_apart whole (digits_left whole part n.1)) refl in
    (λ j. is_numeral 10 (cut.before j ++ cut.after j)) ∙ test-from_IsNumeral 10 (whole ++ part) n

plain : (ds : List ℕ) → IsNumeral 10 ds → is_mantissa ds ≡ true
plain ds n =
    let cut = uncut is_point ds (no_digit is_point point_apart ds n.1) in
    (λ j. is_numeral 10 (cut.before j ++ cut.after j)) ∙ ap (is_numeral 10) (append-nil ds) ∙ test-from_IsNumeral 10 ds n

-- a numeral begins with no sign
pub unsigned_digits : (ds : List ℕ) → IsNumeral 10 ds → is_unsigned ds
unsigned_digits [] n = absurd (omega (arith, n.0))
unsigned_digits (c ∷ ds) n = (differs c 45 n.1.0 (lit≤ tt), differs c 43 n.1.0 (lit≤ tt))

-- a mantissa and an exponent
powered : (front : List ℕ) (rest : List ℕ) → list_any is_e front ≡ false → is_mantissa front ≡ true → IsExponent rest → is_fraction (front ++ rest) ≡ true
powered front rest none mantissa (exponent negative e after ds is_letter spelled sign numeral) = subst (λ r. is_fraction (front ++ r) ≡ true) (sym spelled) whole
  where
    whole : is_fraction (front ++ e ∷ after) ≡ true
    whole =
        let cut = first_cut is_e front e after none is_letter in
        let digits : is_numeral 10 (without_leading_sign after) ≡ true = ap (is_numeral 10) (sign_is after ds negative sign (unsigned_digits ds numeral)).0 ∙ test-from_IsNumeral 10 ds numeral in
        (λ j. is_mantissa (cut.before j) && (if cut.some j then is_numeral 10 (without_leading_sign (cut.after j)) else list_any is_point (front ++ e ∷ after)))
        ∙ (λ j. mantissa j && digits j)

pub fraction_none : (us : List ℕ) → list_any is_e us ≡ false → is_fraction us ≡ (is_mantissa us && list_any is_point us)
fraction_none us none =
    let cut = uncut is_e us none in
    λ j. is_mantissa (cut.before j) && (if cut.none j then is_numeral 10 (without_leading_sign (cut.after j)) else list_any is_point us)

-- the test of a fraction is what it says
pub test-from_fraction : (us : List ℕ) → IsDecimalFraction us → is_fraction us ≡ true
test-from_fraction us (point whole part spelled n) = subst (λ xs. is_fraction xs ≡ true) (sym spelled) (
    let cut = first_cut is_point whole 46 part (no_digit is_point point_apart whole (digits_left whole part n.1)) refl in
    fraction_none (whole ++ (46 ∷ part)) (no_e_around whole part n.1) ∙ (λ j. pointed whole part n j && cut.some j))
test-from_fraction us (point_power whole part rest spelled n x) =
    subst (λ xs. is_fraction xs ≡ true) (sym spelled) (powered (whole ++ (46 ∷ part)) rest (no_e_around whole part n.1) (pointed whole part n) x)
test-from_fraction us (power whole rest spelled n x) =
    subst (λ xs. is_fraction xs ≡ true) (sym spelled) (powered whole rest (no_digit is_e e_apart whole n.1) (plain whole n) x)

-- a mantissa with its point
halves : (front : List ℕ) → is_mantissa front ≡ true → list_any is_point front ≡ true → (whole : List ℕ) × (part : List ℕ) × (front ≡ whole ++ (46 ∷ part)) × IsNumeral 10 (whole ++ part)
halves front mantissa some =
    let around = around_first is_point front some in (
      before_first is_point front,
      after_first is_point front,
      around.2 ∙ ap (λ y. before_first is_point front ++ (y ∷ after_first is_point front)) (eqb-true around.0 46 around.1),
      IsNumeral-from_test 10 (before_first is_point front ++ after_first is_point front) mantissa,
    )

-- and without one
bare_digits : (front : List ℕ) → is_mantissa front ≡ true → list_any is_point front ≡ false → IsNumeral 10 front
bare_digits front mantissa none =
    let cut = uncut is_point front none in
    let whole : is_numeral 10 front ≡ true = sym ((λ j. is_numeral 10 (cut.before j ++ cut.after j)) ∙ ap (is_numeral 10) (append-nil front)) ∙ mantissa in
    IsNumeral-from_test 10 front whole

with_exponent : (us front after : List ℕ) (y : ℕ) → us ≡ front ++ (y ∷ after) → is_e y ≡ true → is_mantissa front ≡ true → is_numeral 10 (without_leading_sign after) ≡ true → IsDecimalFraction us
with_exponent us front after y spelled letter mantissa digits = by (list_any is_point front) refl
  where
    tail : IsExponent (y ∷ after)
    tail = exponent (starts_with_minus after) y after (without_leading_sign after) letter refl (sign_of after) (IsNumeral-from_test 10 (without_leading_sign after) digits)

    by : (b : Bool) → list_any is_point front ≡ b → IsDecimalFraction us
    by true some =
        let two = halves front mantissa some in
        point_power two.0 two.1 (y ∷ after) (spelled ∙ ap (λ xs. xs ++ (y ∷ after)) two.2) two.3 tail
    by false none = power front (y ∷ after) spelled (bare_digits front mantissa none) tail

pub fraction-from_test : (us : List ℕ) → is_fraction us ≡ true → IsDecimalFraction us
fraction-from_test us e = by (list_any is_e us) refl
  where
    by : (b : Bool) → list_any is_e us ≡ b → IsDecimalFraction us
    by true some =
        let around = around_first is_e us some in
        let parts = and_both (is_mantissa (before_first is_e us)) (is_numeral 10 (without_leading_sign (after_first is_e us))) (
        sym (ap (λ b. is_mantissa (before_first is_e us) && (if b then is_numeral 10 (without_leading_sign (after_first is_e us)) else list_any is_point us)) some) ∙ e
        ) in
        with_exponent us (before_first is_e us) (after_first is_e us) around.0 around.2 around.1 parts.0 parts.1
    by false none =
        let parts = and_both (is_mantissa us) (list_any is_point us) (sym (fraction_none us none) ∙ e) in
        let two = halves us parts.0 parts.1 in
        point two.0 two.1 two.2 two.3

pub and_false : (b : Bool) → (b && false) ≡ false
and_false true = refl
and_false false = refl

-- a unit that is no digit makes a text no numeral
pub no_numeral : (xs : List ℕ) (y : ℕ) (ys : List ℕ) → is_digit y 10 ≡ false → is_numeral 10 (xs ++ (y ∷ ys)) ≡ false
no_numeral xs y ys other =
    ap (λ b. nat_lt 0 (length (xs ++ (y ∷ ys))) && b) (
    list_all-append (λ u. is_digit u 10) xs (y ∷ ys)
    ∙ ap (λ b. list_all (λ u. is_digit u 10) xs && (b && list_all (λ u. is_digit u 10) ys)) other
    ∙ and_false (list_all (λ u. is_digit u 10) xs)
    )
    ∙ and_false (nat_lt 0 (length (xs ++ (y ∷ ys))))

letter_is_no_digit : (e : ℕ) → is_e e ≡ true → is_digit e 10 ≡ false
letter_is_no_digit e is = by (e == 101) (e == 69) refl refl is
  where
    by : (a b : Bool) → e == 101 ≡ a → e == 69 ≡ b → (a || b) ≡ true → is_digit e 10 ≡ false
    by true b small large is = subst (λ c. is_digit c 10 ≡ false) (sym (eqb-true e 101 small)) refl
    by false true small large is = subst (λ c. is_digit c 10 ≡ false) (sym (eqb-true e 69 large)) refl
    by false false small large is = cc

-- a fraction is no numeral
pub not_numeral : (us : List ℕ) → IsDecimalFraction us → is_numeral 10 us ≡ false
not_numeral us (point whole part spelled n) = ap (is_numeral 10) spelled ∙ no_numeral whole 46 part refl
not_numeral us (point_power whole part rest spelled n x) = ap (is_numeral 10) (spelled ∙ append_assoc whole (46 ∷ part) rest) ∙ no_numeral whole 46 (part ++ rest) refl
not_numeral us (power whole rest spelled n x) = by x
  where
    by : IsExponent rest → is_numeral 10 us ≡ false
    by (exponent negative e after ds is_letter begins sign numeral) =
        ap (is_numeral 10) (spelled ∙ ap (λ r. whole ++ r) begins) ∙ no_numeral whole e after (letter_is_no_digit e is_letter)

-- it begins with no sign, and has units
unsigned_from : (xs ys : List ℕ) → AllDigits 10 xs → is_unsigned ys × (0 < length ys) → is_unsigned (xs ++ ys) × (0 < length (xs ++ ys))
unsigned_from [] ys d h = h
unsigned_from (x ∷ xs) ys d h = ((differs x 45 d.0 (lit≤ tt), differs x 43 d.0 (lit≤ tt)), omega arith)

begins : (us vs : List ℕ) → us ≡ vs → is_unsigned vs × (0 < length vs) → is_unsigned us × (0 < length us)
begins us vs e h = subst (λ xs. is_unsigned xs × (0 < length xs)) (sym e) h

pub unsigned_fraction : (us : List ℕ) → IsDecimalFraction us → is_unsigned us × (0 < length us)
unsigned_fraction us (point whole part spelled n) =
    begins us (whole ++ (46 ∷ part)) spelled (unsigned_from whole (46 ∷ part) (digits_left whole part n.1) ((refl, refl), omega arith))
unsigned_fraction us (point_power whole part rest spelled n x) =
    begins us (whole ++ (46 ∷ (part ++ rest))) (spelled ∙ append_assoc whole (46 ∷ part) rest) (unsigned_from whole (46 ∷ (part ++ rest)) (digits_left whole part n.1) ((refl, refl), omega arith))
unsigned_fraction us (power whole rest spelled n x) = begins us (whole ++ rest) spelled (by whole n)
  where
    by : (xs : List ℕ) → IsNumeral 10 xs → is_unsigned (xs ++ rest) × (0 < length (xs ++ rest))
    by [] n = absurd (omega (arith, n.0))
    by (c ∷ xs) n = ((differs c 45 n.1.0 (lit≤ tt), differs c 43 n.1.0 (lit≤ tt)), omega arith)

-- `0x` begins no fraction
hexadecimal_mantissa : (x : ℕ) (rest : List ℕ) → is_point x ≡ false → is_digit x 10 ≡ false → is_mantissa (48 ∷ x ∷ rest) ≡ false
hexadecimal_mantissa x rest no_point other =
    let before : before_first is_point (48 ∷ x ∷ rest) ≡ 48 ∷ x ∷ before_first is_point rest =
    take_while-cons (λ u. not (is_point u)) 48 (x ∷ rest) ∙ ap (λ us. 48 ∷ us) (take_while-cons (λ u. not (is_point u)) x rest ∙ ap (λ b. cond (not b) (x ∷ before_first is_point rest) []) no_point) in
    ap (λ us. is_numeral 10 (us ++ after_first is_point (48 ∷ x ∷ rest))) before
    ∙ no_numeral (48 ∷ []) x (before_first is_point rest ++ after_first is_point (48 ∷ x ∷ rest)) other

pub hexadecimal_apart : (x : ℕ) (rest : List ℕ) → is_point x ≡ false → is_e x ≡ false → is_digit x 10 ≡ false → is_fraction (48 ∷ x ∷ rest) ≡ false
hexadecimal_apart x rest no_point no_e other =
    let us = 48 ∷ x ∷ rest in
    let before : before_first is_e us ≡ 48 ∷ x ∷ before_first is_e rest =
    take_while-cons (λ u. not (is_e u)) 48 (x ∷ rest) ∙ ap (λ us. 48 ∷ us) (take_while-cons (λ u. not (is_e u)) x rest ∙ ap (λ b. cond (not b) (x ∷ before_first is_e rest) []) no_e) in
    ap (λ front. is_mantissa front && (if list_any is_e us then is_numeral 10 (without_leading_sign (after_first is_e us)) else list_any is_point us)) before
    ∙ ap (λ b. b && (if list_any is_e us then is_numeral 10 (without_leading_sign (after_first is_e us)) else list_any is_point us)) (hexadecimal_mantissa x (before_first is_e rest) no_point other)
