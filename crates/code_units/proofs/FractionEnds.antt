-- A decimal literal with a point or an exponent, read from its start.
use Rattle.std.proofs.Common.{◌≡◌, ℕ, Bool, true, false, cond, ◌&&◌, nat_lt, if◌then◌else◌, List, [], ◌∷◌, ◌++◌, length, take, drop, refl, sym, ap, ◌∙◌, subst, arith, eqb-true, ne_eqb, lt-ltb, append-nil, append_assoc, take-append-drop, ◌<◌, ◌≤◌}
use Rattle.std.specs.Prelude.{◌||◌, ◌==◌, not, slice_index}
use Rattle.std.specs.List.{list_any, prefix_len, before_first, after_first}
use Rattle.std.specs.Char.{is_digit}
use Rattle.std.specs.Str.Parse.{AllDigits, without_leading_sign}
use Rattle.std.proofs.lemmas.List.Sums.{take_while-cons}
use Rattle.code_units.specs.Whole.{is_e, is_point, is_numeral, is_exponent, is_mantissa, is_fraction}
use Rattle.code_units.proofs.Cuts.{or_neither, first_cut, uncut}
use Rattle.code_units.proofs.Fractions.{no_digit, point_apart, e_apart, no_e_around, fraction_none, no_numeral, and_false}
use Rattle.code_units.proofs.RunLemmas.{digits_taken, digits_end}
use Rattle.code_units.proofs.Signs.{are_digits}
use Rattle.std.proofs.lemmas.List.{length-take-le}

and_true : (b : Bool) → (b && true) ≡ b
and_true true = refl
and_true false = refl

-- what does not pass stands before the first that does
before-keeps : (p : ℕ → Bool) (x : ℕ) (ys : List ℕ) → p x ≡ false → before_first p (x ∷ ys) ≡ x ∷ before_first p ys
before-keeps p x ys none = take_while-cons (λ u. not (p u)) x ys ∙ ap (λ b. cond (not b) (x ∷ before_first p ys) []) none

before-append : (p : ℕ → Bool) (xs ys : List ℕ) → list_any p xs ≡ false → before_first p (xs ++ ys) ≡ xs ++ before_first p ys
before-append p [] ys none = refl
before-append p (x ∷ xs) ys none =
    let each = or_neither (p x) (list_any p xs) none in
    before-keeps p x (xs ++ ys) each.0 ∙ ap (λ us. x ∷ us) (before-append p xs ys each.1)

numeral_digits : (ds : List ℕ) → AllDigits 10 ds → is_numeral 10 ds ≡ nat_lt 0 (length ds)
numeral_digits ds d = ap (λ b. nat_lt 0 (length ds) && b) (are_digits 10 ds d) ∙ and_true (nat_lt 0 (length ds))

-- digits, with a point among them or not, are a mantissa where they are any
mantissa_digits : (ds : List ℕ) → AllDigits 10 ds → is_mantissa ds ≡ nat_lt 0 (length ds)
mantissa_digits ds d =
    let cut = uncut is_point ds (no_digit is_point point_apart ds d) in
    (λ j. is_numeral 10 (cut.before j ++ cut.after j)) ∙ ap (is_numeral 10) (append-nil ds) ∙ numeral_digits ds d

both_digits : (xs ys : List ℕ) → AllDigits 10 xs → AllDigits 10 ys → AllDigits 10 (xs ++ ys)
both_digits [] ys d e = e
both_digits (x ∷ xs) ys d e = (d.0, both_digits xs ys d.1 e)

some_digits : (xs ys : List ℕ) → nat_lt 0 (length (xs ++ ys)) ≡ (nat_lt 0 (length xs) || nat_lt 0 (length ys))
some_digits [] ys = refl
some_digits (x ∷ xs) ys = lt-ltb 0 (length ((x ∷ xs) ++ ys)) (omega arith) ∙ sym (ap (λ b. b || nat_lt 0 (length ys)) (lt-ltb 0 (length (x ∷ xs)) (omega arith)))

mantissa_pointed : (ds part : List ℕ) → AllDigits 10 ds → AllDigits 10 part → is_mantissa (ds ++ 46 ∷ part) ≡ (nat_lt 0 (length ds) || nat_lt 0 (length part))
mantissa_pointed ds part d e =
    let cut = first_cut is_point ds 46 part (no_digit is_point point_apart ds d) refl in
    (λ j. is_numeral 10 (cut.before j ++ cut.after j)) ∙ numeral_digits (ds ++ part) (both_digits ds part d e) ∙ some_digits ds part

-- with another unit they are none
mantissa_other : (ds : List ℕ) (c : ℕ) (us : List ℕ) → AllDigits 10 ds → is_point c ≡ false → is_digit c 10 ≡ false → is_mantissa (ds ++ c ∷ us) ≡ false
mantissa_other ds c us d none other =
    let before = before-append is_point ds (c ∷ us) (no_digit is_point point_apart ds d) ∙ ap (λ xs. ds ++ xs) (before-keeps is_point c us none) in
    ap (λ xs. is_numeral 10 (xs ++ after_first is_point (ds ++ c ∷ us))) before
    ∙ ap (is_numeral 10) (append_assoc ds (c ∷ before_first is_point us) (after_first is_point (ds ++ c ∷ us)))
    ∙ no_numeral ds c (before_first is_point us ++ after_first is_point (ds ++ c ∷ us)) other

mantissa_pointed_other : (ds part : List ℕ) (c : ℕ) (us : List ℕ) → AllDigits 10 ds → is_digit c 10 ≡ false → is_mantissa (ds ++ 46 ∷ (part ++ c ∷ us)) ≡ false
mantissa_pointed_other ds part c us d other =
    let cut = first_cut is_point ds 46 (part ++ c ∷ us) (no_digit is_point point_apart ds d) refl in
    (λ j. is_numeral 10 (cut.before j ++ cut.after j)) ∙ ap (is_numeral 10) (sym (append_assoc ds part (c ∷ us))) ∙ no_numeral (ds ++ part) c us other

-- behind an exponent's letter
with_letter : (front : List ℕ) (e : ℕ) (us : List ℕ) → list_any is_e front ≡ false → is_e e ≡ true → is_fraction (front ++ e ∷ us) ≡ (is_mantissa front && is_numeral 10 (without_leading_sign us))
with_letter front e us none letter =
    let cut = first_cut is_e front e us none letter in
    λ j. is_mantissa (cut.before j) && (if cut.some j then is_numeral 10 (without_leading_sign (cut.after j)) else list_any is_point (front ++ e ∷ us))

no_mantissa : (us : List ℕ) → is_mantissa (before_first is_e us) ≡ false → is_fraction us ≡ false
no_mantissa us none = ap (λ b. b && (if list_any is_e us then is_numeral 10 (without_leading_sign (after_first is_e us)) else list_any is_point us)) none

-- behind digits
pub ends_fraction : (ds us : List ℕ) → AllDigits 10 ds → is_digit (slice_index us 0) 10 ≡ false → is_point (slice_index us 0) ≡ false → (nat_lt 0 (length ds) && is_exponent us) ≡ is_fraction (ds ++ us)
ends_fraction ds [] d other none =
    let no_point = no_digit is_point point_apart ds d in
    and_false (nat_lt 0 (length ds))
    ∙ sym (ap is_fraction (append-nil ds) ∙ fraction_none ds (no_digit is_e e_apart ds d) ∙ ap (λ b. is_mantissa ds && b) no_point ∙ and_false (is_mantissa ds))
ends_fraction ds (c ∷ us) d other none = by (is_e c) refl
  where
    no_letter : list_any is_e ds ≡ false
    no_letter = no_digit is_e e_apart ds d

    by : (b : Bool) → is_e c ≡ b → (nat_lt 0 (length ds) && (is_e c && is_numeral 10 (without_leading_sign us))) ≡ is_fraction (ds ++ c ∷ us)
    by true letter =
        ap (λ b. nat_lt 0 (length ds) && (b && is_numeral 10 (without_leading_sign us))) letter
        ∙ sym (with_letter ds c us no_letter letter ∙ ap (λ b. b && is_numeral 10 (without_leading_sign us)) (mantissa_digits ds d))
    by false letter =
        ap (λ b. nat_lt 0 (length ds) && (b && is_numeral 10 (without_leading_sign us))) letter ∙ and_false (nat_lt 0 (length ds))
        ∙ sym (no_mantissa (ds ++ c ∷ us) (
        ap is_mantissa (before-append is_e ds (c ∷ us) no_letter ∙ ap (λ xs. ds ++ xs) (before-keeps is_e c us letter))
        ∙ mantissa_other ds c (before_first is_e us) d none other))

-- behind digits and a point
in_parts : (ds part us : List ℕ) → AllDigits 10 ds → AllDigits 10 part → is_digit (slice_index us 0) 10 ≡ false
    → ((nat_lt 0 (length ds) || nat_lt 0 (length part)) && ((length us == 0) || is_exponent us)) ≡ is_fraction (ds ++ 46 ∷ (part ++ us))
in_parts ds part [] d e other =
    let cut = first_cut is_point ds 46 part (no_digit is_point point_apart ds d) refl in
    sym (
    ap (λ xs. is_fraction (ds ++ 46 ∷ xs)) (append-nil part)
    ∙ fraction_none (ds ++ 46 ∷ part) (no_e_around ds part (both_digits ds part d e))
    ∙ (λ j. mantissa_pointed ds part d e j && cut.some j)
    )
in_parts ds part (c ∷ us) d e other =
    ap (λ b. (nat_lt 0 (length ds) || nat_lt 0 (length part)) && (b || is_exponent (c ∷ us))) (ne_eqb (length (c ∷ us)) 0 (λ (h : length (c ∷ us) ≡ 0). omega (arith, h)))
    ∙ by (is_e c) refl
  where
    no_letter : list_any is_e (ds ++ 46 ∷ part) ≡ false
    no_letter = no_e_around ds part (both_digits ds part d e)

    by : (b : Bool) → is_e c ≡ b → ((nat_lt 0 (length ds) || nat_lt 0 (length part)) && (is_e c && is_numeral 10 (without_leading_sign us))) ≡ is_fraction (ds ++ 46 ∷ (part ++ c ∷ us))
    by true letter =
        ap (λ b. (nat_lt 0 (length ds) || nat_lt 0 (length part)) && (b && is_numeral 10 (without_leading_sign us))) letter
        ∙ sym (
        ap is_fraction (sym (append_assoc ds (46 ∷ part) (c ∷ us)))
        ∙ with_letter (ds ++ 46 ∷ part) c us no_letter letter
        ∙ ap (λ b. b && is_numeral 10 (without_leading_sign us)) (mantissa_pointed ds part d e)
        )
    by false letter =
        ap (λ b. (nat_lt 0 (length ds) || nat_lt 0 (length part)) && (b && is_numeral 10 (without_leading_sign us))) letter ∙ and_false (nat_lt 0 (length ds) || nat_lt 0 (length part))
        ∙ sym (no_mantissa (ds ++ 46 ∷ (part ++ c ∷ us)) (
        ap (λ xs. is_mantissa (before_first is_e xs)) (sym (append_assoc ds (46 ∷ part) (c ∷ us)))
        ∙ ap is_mantissa (before-append is_e (ds ++ 46 ∷ part) (c ∷ us) no_letter ∙ ap (λ xs. (ds ++ 46 ∷ part) ++ xs) (before-keeps is_e c us letter))
        ∙ ap is_mantissa (append_assoc ds (46 ∷ part) (c ∷ before_first is_e us))
        ∙ mantissa_pointed_other ds part c (before_first is_e us) d other))

pub ends_behind_point : (ds us rest : List ℕ) (n : ℕ) (b some empty : Bool) → n ≡ prefix_len (λ u. is_digit u 10) us → n ≤ length us → rest ≡ drop n us → AllDigits 10 ds → b ≡ nat_lt 0 (length ds)
    → some ≡ (b || nat_lt 0 n) → empty ≡ (length rest == 0) → (some && (empty || is_exponent rest)) ≡ is_fraction (ds ++ 46 ∷ us)
ends_behind_point ds us rest n b some empty run within tail d behind is_some is_empty =
    let part : AllDigits 10 (take n us) = subst (λ m. AllDigits 10 (take m us)) (sym run) (digits_taken us) in
    let other : is_digit (slice_index (drop n us) 0) 10 ≡ false = ap (λ m. is_digit (slice_index (drop m us) 0) 10) run ∙ digits_end us in
    let long : nat_lt 0 n ≡ nat_lt 0 (length (take n us)) = ap (nat_lt 0) (sym (length-take-le n us within)) in
    (λ j. (is_some ∙ (λ i. behind i || long i)) j && ((is_empty ∙ ap (λ xs. length xs == 0) tail) j || is_exponent (tail j)))
    ∙ in_parts ds (take n us) (drop n us) d part other
    ∙ ap (λ xs. is_fraction (ds ++ 46 ∷ xs)) (take-append-drop n us)

-- a point and what stands behind it
pub pointed_text : (us rest : List ℕ) → 0 < length us → is_point (slice_index us 0) ≡ true → rest ≡ drop 1 us → 46 ∷ rest ≡ us
pointed_text [] rest some point e = absurd (omega (arith, some))
pointed_text (u ∷ us) rest some point e = λ j. sym (eqb-true u 46 point) j ∷ e j
