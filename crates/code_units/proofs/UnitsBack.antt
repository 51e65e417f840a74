-- A text without lone surrogates comes back from its UTF-8, and each text's UTF-8 is UTF-8.
use Rattle.std.proofs.Common.{◌≡◌, ℕ, suc, ◌+◌, ◌-◌, ◌*◌, ◌^◌, ◌<◌, ◌≤◌, Bool, true, false, ◌&&◌, nat_lt, List, [], ◌∷◌, ◌++◌, get_or, Option, Some, None, is_some, map, if◌then◌else◌, refl, ap, ◌∙◌, arith, ltb-true, leb-true, IsUtf8}
use Rattle.std.specs.Prelude.{nat_le, not, ◌||◌}
use Rattle.std.specs.List.{list_any}
use Rattle.std.specs.Option.{unwrap_or}
use Rattle.std.specs.Str.{all_scalars}
use Rattle.std.specs.Char.Escape.{encode_utf16}
use Rattle.std.specs.Char.Utf16.{utf16_chars, utf16_lossy_chars, has_unpaired_surrogate, lone_unit_char, surrogate_pair_char, is_high_surrogate, is_low_surrogate}
use Rattle.std.proofs.lemmas.Bool.{true≢false}
use Rattle.std.proofs.lemmas.Bool.Decides.{nat_tests}
use Rattle.std.proofs.Math.Utf8.{scalar}
use Rattle.std.proofs.str.Utf16.{one_unit, pair_units}
use Rattle.std.proofs.lemmas.Str.{chars-encodes}
use Rattle.code_units.specs.Utf8.{units_of, units_of_chars, utf8_of}
use Rattle.code_units.proofs.Signs.{and_both}

-- 16-bit units
abbrev pub AreUnits : List ℕ → Type 0
AreUnits us = (i : ℕ) → get_or us i 0 < 2 ^ 16

-- the test of a surrogate
abbrev is_surrogate : ℕ → Bool
is_surrogate u = nat_le 0xD800 u && nat_lt u 0xE000

abbrev is_pair : ℕ → ℕ → Bool
is_pair u v = is_high_surrogate u && is_low_surrogate v

outside : (u : ℕ) → u < 2 ^ 16 → is_surrogate u ≡ false → scalar u ≡ true
outside u h e = grind (arith, nat_tests)

above : (c : ℕ) → 0xE000 ≤ c → c < 0x11_0000 → scalar c ≡ true
above c low high = grind (arith, nat_tests)

pub record IsPair (u v : ℕ) : Type 0 where
  pub high : 0xD800 ≤ u
  pub below : u < 0xDC00
  pub low : 0xDC00 ≤ v
  pub end : v < 0xE000

pair_is : (u v : ℕ) → is_pair u v ≡ true → IsPair u v
pair_is u v e =
    let parts = and_both (is_high_surrogate u) (is_low_surrogate v) e in
    let first = and_both (nat_le 0xD800 u) (nat_lt u 0xDC00) parts.0 in
    let second = and_both (nat_le 0xDC00 v) (nat_lt v 0xE000) parts.1 in
    record { high = leb-true 0xD800 u first.0; below = ltb-true u 0xDC00 first.1; low = leb-true 0xDC00 v second.0; end = ltb-true v 0xE000 second.1 }

-- a lone unit gives a scalar
lone_scalar : (u : ℕ) → u < 2 ^ 16 → scalar (unwrap_or (lone_unit_char u) 0xFFFD) ≡ true
lone_scalar u h = by (is_surrogate u) refl
  where
    by : (b : Bool) → is_surrogate u ≡ b → scalar (unwrap_or (if b then None else Some u) 0xFFFD) ≡ true
    by true e = refl
    by false e = outside u h e

pair_scalar : (u v : ℕ) → is_pair u v ≡ true → scalar (surrogate_pair_char u v) ≡ true
pair_scalar u v e =
    let p = pair_is u v e in
    above (surrogate_pair_char u v) (omega (arith, p.high, p.below, p.low, p.end)) (omega (arith, p.high, p.below, p.low, p.end))

scalars_step : (u v : ℕ) (us : List ℕ) → u < 2 ^ 16 → all_scalars (utf16_lossy_chars us) ≡ true → all_scalars (utf16_lossy_chars (v ∷ us)) ≡ true → all_scalars (utf16_lossy_chars (u ∷ v ∷ us)) ≡ true
unfolding utf16_chars
scalars_step u v us h rest more = by (is_pair u v) refl
  where
    by : (b : Bool) → is_pair u v ≡ b → all_scalars (map (λ o. unwrap_or o 0xFFFD) (if b then Some (surrogate_pair_char u v) ∷ utf16_chars us else lone_unit_char u ∷ utf16_chars (v ∷ us))) ≡ true
    by true e = λ j. pair_scalar u v e j && rest j
    by false e = λ j. lone_scalar u h j && more j

pub scalars-lossy : (us : List ℕ) → AreUnits us → all_scalars (utf16_lossy_chars us) ≡ true
unfolding utf16_chars
scalars-lossy [] h = refl
scalars-lossy (u ∷ []) h = ap (λ b. b && true) (lone_scalar u (h 0))
scalars-lossy (u ∷ v ∷ us) h = scalars_step u v us (h 0) (scalars-lossy us (λ i. h (suc (suc i)))) (scalars-lossy (v ∷ us) (λ i. h (suc i)))

pub IsUtf8-utf8_of : (us : List ℕ) → AreUnits us → IsUtf8 (utf8_of us)
unfolding utf8_of
IsUtf8-utf8_of us h = (utf16_lossy_chars us, (scalars-lossy us h, refl))

abbrev any_lone : List (Option ℕ) → Bool
any_lone os = list_any (λ o. not (is_some o)) os

or_first : (a b : Bool) → (a || b) ≡ false → a ≡ false
or_first true b e = cc
or_first false b e = refl

or_second : (a b : Bool) → (a || b) ≡ false → b ≡ false
or_second true b e = cc
or_second false b e = e

-- a unit that is no lone surrogate is its own code point
lone_back : (u : ℕ) → u < 2 ^ 16 → not (is_some (lone_unit_char u)) ≡ false → encode_utf16 (unwrap_or (lone_unit_char u) 0xFFFD) ≡ u ∷ []
lone_back u h = by (is_surrogate u)
  where
    by : (b : Bool) → not (is_some (if b then None else Some u)) ≡ false → encode_utf16 (unwrap_or (if b then None else Some u) 0xFFFD) ≡ u ∷ []
    by true e = absurd (true≢false e)
    by false e = one_unit u h

pair_back : (u v : ℕ) → is_pair u v ≡ true → encode_utf16 (surrogate_pair_char u v) ≡ u ∷ v ∷ []
pair_back u v e =
    let p = pair_is u v e in
    let grouped : surrogate_pair_char u v ≡ 0x1_0000 + ((u - 0xD800) * 0x400 + (v - 0xDC00)) = omega arith in
    ap encode_utf16 grouped ∙ pair_units u v p.high p.low p.end

back_step : (u v : ℕ) (us : List ℕ) → u < 2 ^ 16 → (any_lone (utf16_chars us) ≡ false → units_of_chars (utf16_lossy_chars us) ≡ us) → (any_lone (utf16_chars (v ∷ us)) ≡ false → units_of_chars (utf16_lossy_chars (v ∷ us)) ≡ v ∷ us) → any_lone (utf16_chars (u ∷ v ∷ us)) ≡ false → units_of_chars (utf16_lossy_chars (u ∷ v ∷ us)) ≡ u ∷ v ∷ us
unfolding utf16_chars
back_step u v us h rest more = by (is_pair u v) refl
  where
    by : (b : Bool) → is_pair u v ≡ b → any_lone (if b then Some (surrogate_pair_char u v) ∷ utf16_chars us else lone_unit_char u ∷ utf16_chars (v ∷ us)) ≡ false
        → units_of_chars (map (λ o. unwrap_or o 0xFFFD) (if b then Some (surrogate_pair_char u v) ∷ utf16_chars us else lone_unit_char u ∷ utf16_chars (v ∷ us))) ≡ u ∷ v ∷ us
    by true e paired = λ j. pair_back u v e j ++ rest paired j
    by false e paired = λ j. lone_back u h (or_first (not (is_some (lone_unit_char u))) (any_lone (utf16_chars (v ∷ us))) paired) j ++ more (or_second (not (is_some (lone_unit_char u))) (any_lone (utf16_chars (v ∷ us))) paired) j

-- the units come back from their code points
pub units_back : (us : List ℕ) → AreUnits us → has_unpaired_surrogate us ≡ false → units_of_chars (utf16_lossy_chars us) ≡ us
unfolding utf16_chars
units_back [] h paired = refl
units_back (u ∷ []) h paired = ap (λ xs. xs ++ []) (lone_back u (h 0) (or_first (not (is_some (lone_unit_char u))) false paired))
units_back (u ∷ v ∷ us) h paired = back_step u v us (h 0) (units_back us (λ i. h (suc (suc i)))) (units_back (v ∷ us) (λ i. h (suc i))) paired

pub units_of-utf8_of : (us : List ℕ) → AreUnits us → has_unpaired_surrogate us ≡ false → units_of (utf8_of us) ≡ us
unfolding units_of utf8_of
units_of-utf8_of us h paired = ap units_of_chars (chars-encodes (utf16_lossy_chars us) (scalars-lossy us h)) ∙ units_back us h paired
