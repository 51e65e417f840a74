-- The text of a number within the numbers reads as that number.
use Rattle.std.proofs.Common.{◌≡◌, ℕ, suc, ◌+◌, ◌-◌, ◌^◌, ◌<◌, Bool, true, false, cond, ℤ, pos, negsuc, nat_lt, List, [], ◌∷◌, length, drop, get_or, if◌then◌else◌, refl, sym, ap, ◌∙◌, subst, arith, lt-ltb, leb-true, eqb-true}
use Rattle.std.specs.Prelude.{unsigned_abs, ◌||◌, ◌&&◌, ◌==◌, nat_le}
use Rattle.std.specs.Fmt.{decimal, signed_decimal}
use Rattle.std.specs.List.{list_any, prefix_len, suffix_len}
use Rattle.std.specs.Char.{digit_value}
use Rattle.std.specs.Str.Parse.{AllDigits}
use Rattle.std.proofs.lemmas.Fmt.{decimal_is_IsNumeral}
use Rattle.std.proofs.lemmas.List.{take_all}
use Rattle.std.proofs.lemmas.List.Sums.{suffix_len_is}
use Rattle.std.proofs.lemmas.Bool.{true≢false}
use Rattle.std.proofs.lemmas.List.Folds.{list_any_at}
use Rattle.code_units.specs.declared.whole.WholeRead.TheVariants.{Whole, Left}
use Rattle.code_units.specs.Whole.{is_blank, trimmed, trimmed_start, trimmed_end, number_of, number_in}
use Rattle.code_units.specs.Readings.{SpellsWhole, decimal as spelled, bare, minus, signed}
use Rattle.code_units.proofs.Signs.{and_both}
use Rattle.code_units.proofs.Forms.{number_spelled}

-- no digit is a blank
digit_apart : (c : ℕ) → digit_value c < 10 → is_blank c ≡ false
digit_apart c d = by (is_blank c) refl
  where
    small : c < 48 → ⊥
    small h = omega (arith, d, ap (λ b. cond b 36 (cond (nat_lt c 58) (c - 48) (cond (nat_lt c 65) 36 (cond (nat_lt c 91) (c - 55) (cond (nat_lt c 97) 36 (cond (nat_lt c 123) (c - 87) 36)))))) (lt-ltb c 48 h))

    by : (b : Bool) → is_blank c ≡ b → b ≡ false
    by false e = refl
    by true e = absurd (blank (nat_le 9 c && nat_le c 13) (c == 32) refl refl e)
      where
        blank : (a b : Bool) → (nat_le 9 c && nat_le c 13) ≡ a → c == 32 ≡ b → (a || b) ≡ true → ⊥
        blank true b range space is = small (omega (arith, leb-true c 13 (and_both (nat_le 9 c) (nat_le c 13) range).1))
        blank false true range space is = small (omega (arith, eqb-true c 32 space))
        blank false false range space is = cc

digits_apart : (ds : List ℕ) → AllDigits 10 ds → list_any is_blank ds ≡ false
digits_apart [] d = refl
digits_apart (c ∷ ds) d = ap (λ b. b || list_any is_blank ds) (digit_apart c d.0) ∙ digits_apart ds d.1

none_at : (p : ℕ → Bool) (us : List ℕ) (k : ℕ) → list_any p us ≡ false → k < length us → p (get_or us k 0) ≡ false
none_at p us k none lt = by (p (get_or us k 0)) refl
  where
    by : (b : Bool) → p (get_or us k 0) ≡ b → b ≡ false
    by false e = refl
    by true e = absurd (true≢false (sym (list_any_at p us k 0 lt e) ∙ none))

first_none : (us : List ℕ) → list_any is_blank us ≡ false → prefix_len is_blank us ≡ 0
first_none [] none = refl
first_none (u ∷ us) none = ap (λ b. cond b (1 + prefix_len is_blank us) 0) (none_at is_blank (u ∷ us) 0 none (omega arith))

-- a text without blanks keeps all its units
unblanked : (us : List ℕ) → list_any is_blank us ≡ false → trimmed us ≡ us
unfolding trimmed
unblanked us none =
    let at = λ (k : ℕ) (lt : k < length us). none_at is_blank us k none lt in
    let last : suffix_len is_blank us ≡ 0 = suffix_len_is is_blank us (length us) 0 (omega arith) (λ k h lt. absurd (omega arith)) (λ some. at (length us - 1) (omega arith)) ∙ omega arith in
    let kept : trimmed_end us ≡ us = take_all (length us - suffix_len is_blank us) us (omega arith) in
    ap trimmed_start kept ∙ ap (λ n. drop n us) (first_none us none)

no_blank : (z : ℤ) → unsigned_abs z < 2 ^ 53 → list_any is_blank (signed_decimal z) ≡ false
no_blank (pos n) h = digits_apart (decimal n) (decimal_is_IsNumeral n (omega arith)).0.1
no_blank (negsuc n) h = digits_apart (decimal (suc n)) (decimal_is_IsNumeral (suc n) (omega arith)).0.1

spells_itself : (z : ℤ) → unsigned_abs z < 2 ^ 53 → SpellsWhole (signed_decimal z) z
spells_itself (pos n) h =
    let numeral = decimal_is_IsNumeral n (omega arith) in
    subst (λ m. SpellsWhole (decimal n) (pos m)) numeral.1 (spelled false (decimal n) (bare refl) numeral.0)
spells_itself (negsuc n) h =
    let numeral = decimal_is_IsNumeral (suc n) (omega arith) in
    subst (λ m. SpellsWhole (signed_decimal (negsuc n)) (signed true m)) numeral.1 (spelled true (decimal (suc n)) (minus refl) numeral.0)

pub number_in-signed_decimal : (z : ℤ) → unsigned_abs z < 2 ^ 53 → number_in (signed_decimal z) ≡ Whole z
unfolding number_in
number_in-signed_decimal z h =
    ap number_of (unblanked (signed_decimal z) (no_blank z h))
    ∙ number_spelled (signed_decimal z) z (spells_itself z h)
    ∙ ap (λ b. if b then Whole z else Left) (lt-ltb (unsigned_abs z) (2 ^ 53) h)
