-- What is made of texts of 16-bit units is such a text.
use Rattle.std.proofs.lemmas.Bool.{ltb-false, and_parts}
use Rattle.std.specs.Prelude.{◌&&◌, if◌then◌else◌, ◌==◌, codes, slice_range, unsigned_abs, nat_eq}
use Rattle.std.proofs.Common.{◌≤◌, ◌≡◌, ℕ, zero, suc, ◌+◌, ◌-◌, ◌/◌, ◌%◌, ◌<◌, ℤ, pos, negsuc, Bool, true, false, cond, List, [], ◌∷◌, ◌++◌, length, refl, arith, map, drop, nat_lt, ltb-true}
use Rattle.std.specs.List.{AllByRecursion, list_all, flat_map, join_by, starts_with, onto_first}
use Rattle.std.specs.Fmt.{digits, digits_onto, digit_glyph, decimal, signed_decimal}
use Rattle.std.specs.Int.{int_rem_euclid}
use Rattle.std.specs.Str.{str_to_ascii_lowercase, str_to_ascii_uppercase}
use Rattle.std.specs.Char.{to_ascii_lowercase, to_ascii_uppercase}
use Rattle.code_units.specs.declared.whole.WholeRead.{WholeRead}
use Rattle.code_units.specs.declared.whole.WholeRead.TheVariants as read
use Rattle.widget_meaning.specs.Limits.{past_units, past_numbers, max_text}
use Rattle.widget_meaning.specs.Values.{Value, Undefined, Null, Truth, NaN, Num, Text, Own, Host, Fault, E1, E2, E3, E4, E5, E6, E7, E8, E9, E10, E11, E12, to_text}
use Rattle.widget_meaning.specs.Costs.{fault_name, fault_message}
use Rattle.widget_meaning.specs.Operators.{type_name}
use Rattle.widget_meaning.specs.TextNatives.{pieces, pieces_from, cut_here, unit_at}
use Rattle.widget_meaning.specs.GlobalNatives.{code_of}
use Rattle.meaning_laws.specs.Texts.{AreUnits, AreAllUnits, IsText, IsOrdinaryValue}
use Rattle.meaning_laws.proofs.Each.{each_both, each_taken, each_dropped, each_mapped, each_made, each_piece}

-- the test
abbrev pub has_units : List ℕ → Bool
has_units t = list_all (λ u. nat_lt u past_units) t

pub units_tested : (t : List ℕ) → has_units t ≡ true → AreUnits t
units_tested [] e = tt
units_tested (u ∷ us) e = let p = and_parts (nat_lt u past_units) (has_units us) e in (ltb-true u past_units p.0, units_tested us p.1)

abbrev pub is_text : List ℕ → Bool
is_text t = has_units t && nat_lt (length t) past_numbers

pub tested : (t : List ℕ) → is_text t ≡ true → IsText t
tested t e = let p = and_parts (has_units t) (nat_lt (length t) past_numbers) e in (units_tested t p.0, ltb-true (length t) past_numbers p.1)

-- what is made is not too long
pub made_is : (t : List ℕ) → AreUnits t → nat_lt max_text (length t) ≡ false → IsText t
made_is t h e = (h, omega (arith, ltb-false max_text (length t) e))

-- ## Numerals

low_glyph : (upper : Bool) (d : ℕ) → d < 36 → digit_glyph upper d < past_units
low_glyph upper d h = by (nat_lt d 10) upper
  where
    by : (b c : Bool) → (if b then 48 + d else (if c then 55 + d else 87 + d)) < past_units
    by true c = omega (arith, h)
    by false true = omega (arith, h)
    by false false = omega (arith, h)

module _ (base : ℕ) (upper : Bool) (low : (n : ℕ) → n % base < 36) where
  onto_is : (k n : ℕ) (acc : List ℕ) → AreUnits acc → AreUnits (digits_onto k base upper n acc)
  onto_is zero n acc h = h
  onto_is (suc k) n acc h = by (n / base == 0) (onto_is k (n / base) (digit_glyph upper (n % base) ∷ acc) (low_glyph upper (n % base) (low n), h))
    where
      by : (b : Bool) → AreUnits (digits_onto k base upper (n / base) (digit_glyph upper (n % base) ∷ acc))
          → AreUnits (if b then digit_glyph upper (n % base) ∷ acc else digits_onto k base upper (n / base) (digit_glyph upper (n % base) ∷ acc))
      by true e = (low_glyph upper (n % base) (low n), h)
      by false e = e

  onto_length : (k n : ℕ) (acc : List ℕ) → length (digits_onto k base upper n acc) ≤ k + length acc
  onto_length zero n acc = omega arith
  onto_length (suc k) n acc = by (n / base == 0) (onto_length k (n / base) (digit_glyph upper (n % base) ∷ acc))
    where
      by : (b : Bool) → length (digits_onto k base upper (n / base) (digit_glyph upper (n % base) ∷ acc)) ≤ k + suc (length acc)
          → length (if b then digit_glyph upper (n % base) ∷ acc else digits_onto k base upper (n / base) (digit_glyph upper (n % base) ∷ acc)) ≤ suc k + length acc
      by true e = omega arith
      by false e = omega (arith, e)

  pub digits_are : (n : ℕ) → AreUnits (digits base upper n)
  unfolding digits
  digits_are n = onto_is 64 n [] tt

  pub digits_length : (n : ℕ) → length (digits base upper n) ≤ 64
  unfolding digits
  digits_length n = omega (arith, onto_length 64 n [])

low_ten : (n : ℕ) → n % 10 < 36
low_ten n = omega arith

pub decimal_is : (n : ℕ) → IsText (decimal n)
decimal_is n = (digits_are 10 false low_ten n, omega (arith, digits_length 10 false low_ten n))

signed_is : (z : ℤ) → IsText (signed_decimal z)
signed_is (pos n) = decimal_is n
signed_is (negsuc n) = ((omega arith, (decimal_is (suc n)).0), omega (arith, digits_length 10 false low_ten (suc n)))

-- ## Texts of values

pub to_text_is : (v : Value) → IsOrdinaryValue v → IsText (to_text v)
to_text_is Undefined h = tested (codes "undefined") refl
to_text_is Null h = tested (codes "null") refl
to_text_is (Truth true) h = tested (codes "true") refl
to_text_is (Truth false) h = tested (codes "false") refl
to_text_is NaN h = tested (codes "NaN") refl
to_text_is (Num z) h = signed_is z
to_text_is (Text t) h = h
to_text_is (Own n) h = (tt, omega arith)
to_text_is (Host e) h = (tt, omega arith)

pub name_of_fault : (e : Fault) → IsText (fault_name e)
name_of_fault E1 = tested (codes "TypeError") refl
name_of_fault E2 = tested (codes "TypeError") refl
name_of_fault E3 = tested (codes "TypeError") refl
name_of_fault E4 = tested (codes "TypeError") refl
name_of_fault E5 = tested (codes "TypeError") refl
name_of_fault E6 = tested (codes "TypeError") refl
name_of_fault E7 = tested (codes "RangeError") refl
name_of_fault E8 = tested (codes "ADsafe") refl
name_of_fault E9 = tested (codes "ADsafe") refl
name_of_fault E10 = tested (codes "ADsafe") refl
name_of_fault E11 = tested (codes "RangeError") refl
name_of_fault E12 = tested (codes "RangeError") refl

pub message_of_fault : (e : Fault) → IsText (fault_message e)
message_of_fault E1 = tested (fault_message E1) refl
message_of_fault E2 = tested (fault_message E2) refl
message_of_fault E3 = tested (fault_message E3) refl
message_of_fault E4 = tested (fault_message E4) refl
message_of_fault E5 = tested (fault_message E5) refl
message_of_fault E6 = tested (fault_message E6) refl
message_of_fault E7 = tested (fault_message E7) refl
message_of_fault E8 = tested (fault_message E8) refl
message_of_fault E9 = tested (fault_message E9) refl
message_of_fault E10 = tested (fault_message E10) refl
message_of_fault E11 = tested (fault_message E11) refl
message_of_fault E12 = tested (fault_message E12) refl

pub type_is : (f : Bool) (v : Value) → IsText (type_name f v)
type_is f Undefined = tested (codes "undefined") refl
type_is f Null = tested (codes "object") refl
type_is f (Truth b) = tested (codes "boolean") refl
type_is f NaN = tested (codes "number") refl
type_is f (Num z) = tested (codes "number") refl
type_is f (Text t) = tested (codes "string") refl
type_is true (Own n) = tested (codes "function") refl
type_is false (Own n) = tested (codes "object") refl
type_is true (Host e) = tested (codes "function") refl
type_is false (Host e) = tested (codes "object") refl

-- ## Parts

pub both_units : (t u : List ℕ) → AreUnits t → AreUnits u → AreUnits (t ++ u)
both_units t u h k = each_both (λ x. x < past_units) t u h k

pub range_is : (t : List ℕ) (i j : ℕ) → AreUnits t → AreUnits (slice_range t i j)
range_is t i j h = each_taken (λ u. u < past_units) (j - i) (drop i t) (each_dropped (λ u. u < past_units) i t h)

pub unit_is : (t : List ℕ) (z : ℤ) → AreUnits t → AreUnits (unit_at t z)
unit_is t (pos n) h = each_taken (λ u. u < past_units) 1 (drop n t) (each_dropped (λ u. u < past_units) n t h)
unit_is t (negsuc n) h = tt

lower_is : (c : ℕ) → c < past_units → to_ascii_lowercase c < past_units
lower_is c h = by (nat_lt c 65) (nat_lt c 91) refl
  where
    by : (a b : Bool) → nat_lt c 91 ≡ b → cond a c (cond b (c + 32) c) < past_units
    by true b e = h
    by false true e = omega (arith, ltb-true c 91 e)
    by false false e = h

pub lower_text : (t : List ℕ) → AreUnits t → AreUnits (str_to_ascii_lowercase t)
lower_text t h = each_mapped (λ u. u < past_units) (λ u. u < past_units) to_ascii_lowercase lower_is t h

upper_is : (c : ℕ) → c < past_units → to_ascii_uppercase c < past_units
upper_is c h = grind (arith, h)

pub upper_text : (t : List ℕ) → AreUnits t → AreUnits (str_to_ascii_uppercase t)
upper_text t h = each_mapped (λ u. u < past_units) (λ u. u < past_units) to_ascii_uppercase upper_is t h

first_more : (u : ℕ) (ts : List (List ℕ)) → u < past_units → AreAllUnits ts → AreAllUnits (onto_first u ts)
first_more u [] h k = ((h, tt), tt)
first_more u (t ∷ ts) h k = ((h, k.0), k.1)

pieces_from_are : (x : List ℕ) (k : ℕ) (t : List ℕ) → AreUnits t → AreAllUnits (pieces_from x k t)
pieces_from_are x k [] h = (tt, tt)
pieces_from_are x zero (u ∷ us) h = by (starts_with nat_eq (u ∷ us) x) (λ k. pieces_from_are x k us h.1)
  where
    by : (b : Bool) → ((k : ℕ) → AreAllUnits (pieces_from x k us)) → AreAllUnits (cut_here b x u (λ k. pieces_from x k us))
    by true f = (tt, f (length x - 1))
    by false f = first_more u (pieces_from x 0 us) h.0 (f 0)
pieces_from_are x (suc k) (u ∷ us) h = pieces_from_are x k us h.1

pub pieces_are : (x t : List ℕ) → AreUnits t → AreAllUnits (pieces x t)
pieces_are [] t h = each_mapped (λ u. u < past_units) AreUnits (λ u. u ∷ []) (λ u k. (k, tt)) t h
pieces_are (x ∷ xs) t h = pieces_from_are (x ∷ xs) 0 t h

pub joined_is : {A : Type 0} (P : A → Type 0) (f : A → List ℕ) (s : List ℕ) → AreUnits s → ((x : A) → P x → AreUnits (f x)) → (xs : List A) → AllByRecursion P xs → AreUnits (join_by f s xs)
joined_is P f s h k [] q = tt
joined_is P f s h k (x ∷ xs) q = both_units (f x) (flat_map (λ y. s ++ f y) xs) (k x q.0)
    (each_piece P (λ u. u < past_units) (λ y. s ++ f y) (λ y r. both_units s (f y) h (k y r)) xs q.1)

low_code : (z : ℤ) → unsigned_abs (int_rem_euclid z (pos past_units)) < past_units
low_code (pos n) = omega arith
low_code (negsuc n) = omega arith

code_is : (r : WholeRead) → code_of r < past_units
code_is (read.Whole z) = low_code z
code_is read.NotNumber = omega arith
code_is read.Left = omega arith

pub codes_are : (rs : List WholeRead) → AreUnits (map code_of rs)
codes_are rs = each_made (λ u. u < past_units) code_of code_is rs
