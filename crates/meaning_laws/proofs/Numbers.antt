-- Numbers that are read and computed are within the numbers.
use Rattle.std.proofs.Common.{◌≡◌, ℕ, zero, suc, ◌+◌, ◌/◌, ◌%◌, ◌^◌, ◌<◌, ◌≤◌, ℤ, pos, negsuc, Bool, true, false, cond, List, [], ◌∷◌, length, refl, sym, subst, arith, map, nat_lt, ltb-true}
use Rattle.std.specs.Prelude.{Option, Some, None, if◌then◌else◌, ◌==◌, ◌||◌, ⊤, codes, unsigned_abs, neg_ℤ, int_rem, int_div, int_lt, slice_get, drop}
use Rattle.std.specs.List.{AllByRecursion, fold, last_or, range_with_len}
use Rattle.std.specs.Int.{int_min, int_max, int_pow}
use Rattle.std.specs.Str.{bytes_eq}
use Rattle.std.specs.Str.Parse.{digits_value, without_leading_sign, signed_digits_value}
use Rattle.std.proofs.Math.Nat.{mod-le, div-le_self}
use Rattle.std.proofs.lemmas.Bool.{eqb-true}
use Rattle.code_units.specs.declared.whole.WholeRead.{WholeRead}
use Rattle.code_units.specs.declared.whole.WholeRead.TheVariants as read
use Rattle.code_units.specs.Whole.{bounded, is_numeral, is_fraction, is_hexadecimal, number_of, number_in, trimmed}
use Rattle.widget_meaning.specs.Limits.{past_numbers}
use Rattle.widget_meaning.specs.Values.{Value, Undefined, Null, Truth, NaN, Num, Text, Own, Host, to_number}
use Rattle.widget_meaning.specs.Operators.{of_numbers}
use Rattle.widget_meaning.specs.MathNatives.{best}
use Rattle.widget_meaning.specs.TextNatives.{positions}
use Rattle.meaning_laws.specs.Texts.{IsOrdinaryValue}
use Rattle.meaning_laws.proofs.Each.{each_filtered, each_in_range}

-- within the numbers
abbrev pub Within : ℤ → Type 0
Within z = unsigned_abs z < past_numbers

-- what was read, if it is a number
abbrev pub OfRead : WholeRead → Type 0
OfRead (read.Whole z) = Within z
OfRead read.NotNumber = ⊤
OfRead read.Left = ⊤

bounded_is : (z : ℤ) → OfRead (bounded z)
bounded_is z = by (nat_lt (unsigned_abs z) (2 ^ 53)) refl
  where
    by : (b : Bool) → nat_lt (unsigned_abs z) (2 ^ 53) ≡ b → OfRead (if b then read.Whole z else read.Left)
    by true e = ltb-true (unsigned_abs z) (2 ^ 53) e
    by false e = tt

number_is : (us : List ℕ) → OfRead (number_of us)
number_is us = by (length us == 0) (is_numeral 10 (without_leading_sign us)) (bytes_eq (without_leading_sign us) (codes "Infinity") || is_fraction (without_leading_sign us)) (is_hexadecimal us)
  where
    by : (a b c d : Bool) → OfRead (if a then read.Whole (pos 0) else if b then bounded (signed_digits_value 10 us) else if c then read.Left else if d then bounded (pos (digits_value 16 (drop 2 us))) else read.NotNumber)
    by true b c d = omega arith
    by false true c d = bounded_is (signed_digits_value 10 us)
    by false false true d = tt
    by false false false true = bounded_is (pos (digits_value 16 (drop 2 us)))
    by false false false false = tt

pub number_in_is : (us : List ℕ) → OfRead (number_in us)
unfolding number_in
number_in_is us = number_is (trimmed us)

pub to_number_is : (v : Value) → IsOrdinaryValue v → OfRead (to_number v)
to_number_is Undefined h = tt
to_number_is Null h = omega arith
to_number_is (Truth true) h = omega arith
to_number_is (Truth false) h = omega arith
to_number_is NaN h = tt
to_number_is (Num z) h = h
to_number_is (Text t) h = number_in_is t
to_number_is (Own n) h = tt
to_number_is (Host e) h = tt

-- ## Operators

size_neg : (n : ℕ) → unsigned_abs (neg_ℤ (pos n)) ≡ n
size_neg zero = refl
size_neg (suc n) = refl

less : (m n : ℕ) → m ≤ n → n < past_numbers → m < past_numbers
less m n l h = omega (arith, l, h)

pub neg_within : (z : ℤ) → Within z → Within (neg_ℤ z)
neg_within (pos n) h = subst (λ k. k < past_numbers) (sym (size_neg n)) h
neg_within (negsuc n) h = h

pub rem_within : (x y : ℤ) → Within x → Within (int_rem x y)
rem_within (pos a) y h = less _ a (mod-le a _) h
rem_within (negsuc a) y h = subst (λ k. k < past_numbers) (sym (size_neg _)) (less _ (suc a) (mod-le (suc a) _) h)

pub div_within : (x y : ℤ) → Within x → Within (int_div x y)
div_within (pos a) (pos b) h = less (a / b) a (div-le_self a b) h
div_within (pos a) (negsuc b) h = subst (λ k. k < past_numbers) (sym (size_neg (a / suc b))) (less (a / suc b) a (div-le_self a (suc b)) h)
div_within (negsuc a) (pos b) h = subst (λ k. k < past_numbers) (sym (size_neg (suc a / b))) (less (suc a / b) (suc a) (div-le_self (suc a) b) h)
div_within (negsuc a) (negsuc b) h = less (suc a / suc b) (suc a) (div-le_self (suc a) (suc b)) h

pub min_within : (x y : ℤ) → Within x → Within y → Within (int_min x y)
min_within x y h k = by (int_lt y x)
  where
    by : (b : Bool) → Within (cond b y x)
    by true = k
    by false = h

pub max_within : (x y : ℤ) → Within x → Within y → Within (int_max x y)
max_within x y h k = by (int_lt y x)
  where
    by : (b : Bool) → Within (cond b x y)
    by true = h
    by false = k

two_read : (f : ℤ → ℤ → ℤ) → ((x y : ℤ) → Within x → Within y → Within (f x y)) → (a b : WholeRead) → OfRead a → OfRead b → OfRead (of_numbers read.Left read.NotNumber (λ x y. read.Whole (f x y)) a b)
two_read f k read.Left b h i = tt
two_read f k read.NotNumber read.Left h i = tt
two_read f k read.NotNumber read.NotNumber h i = tt
two_read f k read.NotNumber (read.Whole y) h i = tt
two_read f k (read.Whole x) read.Left h i = tt
two_read f k (read.Whole x) read.NotNumber h i = tt
two_read f k (read.Whole x) (read.Whole y) h i = k x y h i

all_read : (f : ℤ → ℤ → ℤ) → ((x y : ℤ) → Within x → Within y → Within (f x y)) → (vs : List Value) (a : WholeRead) → AllByRecursion IsOrdinaryValue vs → OfRead a → OfRead (fold (of_numbers read.Left read.NotNumber (λ x y. read.Whole (f x y))) a (map to_number vs))
all_read f k [] a h i = i
all_read f k (v ∷ vs) a h i = all_read f k vs _ h.1 (two_read f k a (to_number v) i (to_number_is v h.0))

pub best_is : (f : ℤ → ℤ → ℤ) → ((x y : ℤ) → Within x → Within y → Within (f x y)) → (vs : List Value) → AllByRecursion IsOrdinaryValue vs → OfRead (best f vs)
best_is f k [] h = tt
best_is f k (v ∷ vs) h = all_read f k vs (to_number v) h.1 (to_number_is v h.0)

one_power : (n : ℕ) → 1 ^ n ≡ 1
one_power zero = refl
one_power (suc n) = omega (arith, one_power n)

power_sign : (b : Bool) (n : ℕ) → n < past_numbers → Within (cond b (pos n) (neg_ℤ (pos n)))
power_sign true n h = h
power_sign false n h = subst (λ k. k < past_numbers) (sym (size_neg n)) h

pub unit_power : (x : ℤ) (n : ℕ) → (unsigned_abs x == 1) ≡ true → Within (int_pow x n)
unit_power (pos a) n e = subst (λ k. k ^ n < past_numbers) (sym (eqb-true a 1 e)) (subst (λ k. k < past_numbers) (sym (one_power n)) (omega arith))
unit_power (negsuc a) n e = power_sign (n % 2 == 0) (suc a ^ n) (subst (λ k. k ^ n < past_numbers) (sym (eqb-true (suc a) 1 e)) (subst (λ k. k < past_numbers) (sym (one_power n)) (omega arith)))

-- ## Positions

abbrev pub OfPlace : ℕ → Option ℕ → Type 0
OfPlace n None = ⊤
OfPlace n (Some i) = i ≤ n

pub positions_are : (t x : List ℕ) → AllByRecursion (λ i. i ≤ length t) (positions t x)
positions_are t x = each_filtered (λ i. i ≤ length t) _ (range_with_len 0 (length t + 1)) (each_in_range (λ i. i ≤ length t) 0 (length t + 1) (λ i l m. omega (arith, m)))

pub first_place : (n : ℕ) (is : List ℕ) → AllByRecursion (λ i. i ≤ n) is → OfPlace n (slice_get is 0)
first_place n [] h = tt
first_place n (i ∷ is) h = h.0

pub last_place : (n : ℕ) (o : Option ℕ) (is : List ℕ) → OfPlace n o → AllByRecursion (λ i. i ≤ n) is → OfPlace n (last_or o is)
last_place n o [] k h = k
last_place n o (i ∷ is) k h = last_place n (Some i) is h.0 h.1
