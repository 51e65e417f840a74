-- Numerals, digit by digit, up to the limit of the numbers.
use Rattle.std.proofs.Common.{◌≡◌, ℕ, ◌+◌, ◌*◌, ◌^◌, ◌<◌, ◌≤◌, min, Bool, true, false, ◌&&◌, ℤ, pos, neg_ℤ, zero, suc, List, length, take, drop, get_or, refl, sym, ap, ◌∙◌, arith, lt-ltb, le-ltb, inl, inr, if◌then◌else◌}
use Rattle.std.specs.Prelude.{unsigned_abs, slice_index, ◌==◌, codes}
use Rattle.std.specs.Str.{bytes_eq}
use Rattle.std.specs.List.{list_all}
use Rattle.std.specs.Char.{digit_value, is_digit}
use Rattle.std.specs.Str.Parse.{digits_value, without_leading_sign}
use Rattle.std.proofs.Math.Nat.{mul-le-mul_left, mul-le-mul_right}
use Rattle.std.proofs.lemmas.List.Folds.{list_all_more}
use Rattle.std.proofs.lemmas.Bool.Decides.{leb_tells}
use Rattle.code_units.specs.declared.whole.WholeRead.{WholeRead}
use Rattle.code_units.specs.declared.whole.WholeRead.TheVariants.{Whole, Left}
use Rattle.code_units.specs.Whole.{bounded, is_numeral, is_fraction, is_hexadecimal, number_of}

-- past the limit the value stays there
pub step : (v n radix d limit : ℕ) → n ≡ min v limit → 1 ≤ radix → min limit (n * radix + d) ≡ min (v * radix + d) limit
step v n radix d limit e h = elim (leb_tells v limit) [
  | inl small ↦ (let is : n ≡ v = omega arith in ap (λ k. min limit (k * radix + d)) is ∙ omega arith)
  | inr large ↦
      (let is : n ≡ limit = omega arith in
      let one : limit * 1 ≤ limit * radix = mul-le-mul_left limit h in
      let more : limit * radix ≤ v * radix = mul-le-mul_right radix (omega (arith, large.1)) in
      ap (λ k. min limit (k * radix + d)) is ∙ omega arith)
]

pub digits_more : (radix : ℕ) (us : List ℕ) (i : ℕ) → i < length us → digit_value (get_or us i 0) < radix → list_all (λ u. is_digit u radix) (take i us) ≡ true → list_all (λ u. is_digit u radix) (take (i + 1) us) ≡ true
digits_more radix us i within digit all = list_all_more (λ u. is_digit u radix) us i 0 within ∙ ap (λ b. b && is_digit (get_or us i 0) radix) all ∙ lt-ltb (digit_value (get_or us i 0)) radix digit

abs_neg : (n : ℕ) → unsigned_abs (neg_ℤ (pos n)) ≡ n
abs_neg zero = refl
abs_neg (suc n) = refl

left_from : (z : ℤ) → 2 ^ 53 ≤ unsigned_abs z → bounded z ≡ Left
left_from z large = ap (λ b. if b then Whole z else Left) (le-ltb (unsigned_abs z) (2 ^ 53) large)

-- what is past the limit has left the numbers
pub bounded_min : (negative : Bool) (v : ℕ) → bounded (if negative then neg_ℤ (pos (min v (2 ^ 53))) else pos (min v (2 ^ 53))) ≡ bounded (if negative then neg_ℤ (pos v) else pos v)
bounded_min negative v = elim (leb_tells v (2 ^ 53)) [
  | inl small ↦ (let is : min v (2 ^ 53) ≡ v = omega arith in ap (λ n. bounded (if negative then neg_ℤ (pos n) else pos n)) is)
  | inr large ↦ (let is : min v (2 ^ 53) ≡ 2 ^ 53 = omega arith in ap (λ n. bounded (if negative then neg_ℤ (pos n) else pos n)) is ∙ past negative v (omega (arith, large.1)))
]
  where
    past : (negative : Bool) (v : ℕ) → 2 ^ 53 ≤ v → bounded (if negative then neg_ℤ (pos (2 ^ 53)) else pos (2 ^ 53)) ≡ bounded (if negative then neg_ℤ (pos v) else pos v)
    past false v large = sym (left_from (pos v) large)
    past true v large = sym (left_from (neg_ℤ (pos v)) (omega (arith, abs_neg v)))

-- a text that a sign and digits spell
pub number_decimal : (us digits : List ℕ) (n : ℕ) (r : WholeRead) → length us == 0 ≡ false → digits ≡ without_leading_sign us → is_numeral 10 digits ≡ true → n ≡ min (digits_value 10 digits) (2 ^ 53) → r ≡ bounded (if slice_index us 0 == 45 then neg_ℤ (pos n) else pos n) → r ≡ number_of us
number_decimal us digits n r filled rest numeral value is =
    let value : n ≡ min (digits_value 10 (without_leading_sign us)) (2 ^ 53) = value ∙ ap (λ ds. min (digits_value 10 ds) (2 ^ 53)) rest in
    let numeral : is_numeral 10 (without_leading_sign us) ≡ true = sym (ap (is_numeral 10) rest) ∙ numeral in
    is
    ∙ ap (λ m. bounded (if slice_index us 0 == 45 then neg_ℤ (pos m) else pos m)) value
    ∙ bounded_min (slice_index us 0 == 45) (digits_value 10 (without_leading_sign us))
    ∙ sym (rw (filled, numeral) refl)

-- a text of hexadecimal digits
pub number_hexadecimal : (us digits : List ℕ) (n : ℕ) (r : WholeRead) → length us == 0 ≡ false → digits ≡ without_leading_sign us → is_numeral 10 digits ≡ false → bytes_eq digits (codes "Infinity") ≡ false → is_fraction digits ≡ false → is_hexadecimal us ≡ true → n ≡ min (digits_value 16 (drop 2 us)) (2 ^ 53) → r ≡ bounded (pos n) → r ≡ number_of us
number_hexadecimal us digits n r filled rest numeral infinity fraction hexadecimal value is =
    let numeral : is_numeral 10 (without_leading_sign us) ≡ false = sym (ap (is_numeral 10) rest) ∙ numeral in
    let infinity : bytes_eq (without_leading_sign us) (codes "Infinity") ≡ false = sym (ap (λ ds. bytes_eq ds (codes "Infinity")) rest) ∙ infinity in
    let fraction : is_fraction (without_leading_sign us) ≡ false = sym (ap is_fraction rest) ∙ fraction in
    is
    ∙ ap (λ m. bounded (pos m)) value
    ∙ bounded_min false (digits_value 16 (drop 2 us))
    ∙ sym (rw (filled, numeral, infinity, fraction, hexadecimal) refl)
