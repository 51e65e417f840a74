-- Sixteen lanes at once: which are of a kind, and the empty mask.
use Rattle.std.proofs.Common.{◌≡◌, ℕ, suc, ◌+◌, ◌%◌, ◌^◌, ◌<◌, ◌≤◌, ltb, eqb, ltb-true, ltb-false, Bool, true, false, cond, ◌&&◌, List, map, length, get_or, replicate, bit_or, bit_and, refl, sym, ap, ◌∙◌, arith}
use Rattle.std.specs.Prelude.{◌||◌, ◌==◌, not, nat_le, nat_lt}
use Rattle.std.specs.Char.{is_digit}
use Rattle.std.specs.Int.{is_in_range}
use Rattle.std.proofs.lemmas.Bool.{lt-leb, le-leb, not-false}
use Rattle.std.proofs.lemmas.Bool.Decides.{nat_tests}
use Rattle.std.proofs.lemmas.List.{length-map}
use Rattle.std.proofs.lemmas.Simd.{zip2_splat, zip2_splat_left, zip2_of_maps, map-map, mask_l-mod, none_from_empty_mask}
use lib.Lanes.{chunk, zip2, mask_l, top}
use Rattle.code_units.specs.declared.runs.Kind.TheVariants.{Digit, Hexadecimal, Zero, Blank, Ascii}
use Rattle.code_units.specs.Runs.{is_of}

-- the lane of a unit: set where the unit fails a test
abbrev lane : Bool → ℕ
lane passes = cond passes 0 65535

outside_lane : (low high u : ℕ) → bit_or (cond (ltb u low) 65535 0) (cond (ltb high u) 65535 0) ≡ lane (is_in_range low high u)
outside_lane low high u = by (ltb u low) (ltb high u) refl refl
  where
    by : (a b : Bool) → ltb u low ≡ a → ltb high u ≡ b → bit_or (cond a 65535 0) (cond b 65535 0) ≡ lane (nat_le low u && nat_le u high)
    by true true e f = sym (ap (λ t. lane (t && nat_le u high)) (lt-leb low u (ltb-true u low e)))
    by true false e f = sym (ap (λ t. lane (t && nat_le u high)) (lt-leb low u (ltb-true u low e)))
    by false true e f = sym (λ j. lane (le-leb low u (ltb-false u low e) j && lt-leb u high (ltb-true high u f) j))
    by false false e f = sym (λ j. lane (le-leb low u (ltb-false u low e) j && le-leb u high (ltb-false high u f) j))

outside_lanes : (low high : ℕ) (v : List ℕ) → length v ≡ 16
    → zip2 bit_or (zip2 (λ a b. cond (ltb a b) 65535 0) v (replicate 16 low)) (zip2 (λ a b. cond (ltb a b) 65535 0) (replicate 16 high) v) ≡ map (λ u. lane (is_in_range low high u)) v
outside_lanes low high v long =
    zip2_of_maps bit_or (λ u. cond (ltb u low) 65535 0) (λ u. cond (ltb high u) 65535 0) v (zip2_splat (λ a b. cond (ltb a b) 65535 0) v 16 low long) (zip2_splat_left (λ a b. cond (ltb a b) 65535 0) high 16 v long)
    ∙ (λ j. map (λ u. outside_lane low high u j) v)

and_lane : (a b : Bool) → bit_and (lane a) (lane b) ≡ lane (a || b)
and_lane true true = refl
and_lane true false = refl
and_lane false true = refl
and_lane false false = refl

-- lanes that fail two tests
both_lanes : (p q : ℕ → Bool) (v xs ys : List ℕ) → xs ≡ map (λ u. lane (p u)) v → ys ≡ map (λ u. lane (q u)) v → zip2 bit_and xs ys ≡ map (λ u. lane (p u || q u)) v
both_lanes p q v xs ys e f = zip2_of_maps bit_and (λ u. lane (p u)) (λ u. lane (q u)) v e f ∙ (λ j. map (λ u. and_lane (p u) (q u) j) v)

ne_lane : (u v : ℕ) → cond (not (eqb u v)) 65535 0 ≡ lane (u == v)
ne_lane u v = by (eqb u v)
  where
    by : (b : Bool) → cond (not b) 65535 0 ≡ lane b
    by true = refl
    by false = refl

above_lane : (u : ℕ) → cond (ltb 127 u) 65535 0 ≡ lane (nat_lt u 128)
above_lane u = by (ltb 127 u) refl
  where
    by : (b : Bool) → ltb 127 u ≡ b → cond b 65535 0 ≡ lane (nat_lt u 128)
    by true e = sym (ap lane (lt-leb (suc u) 128 (omega (arith, ltb-true 127 u e))))
    by false e = sym (ap lane (le-leb (suc u) 128 (omega (arith, ltb-false 127 u e))))

digit_in : (u : ℕ) → is_in_range 48 57 u ≡ is_digit u 10
digit_in u = grind (arith, nat_tests)

hexadecimal_in : (u : ℕ) → ((is_in_range 48 57 u || is_in_range 65 70 u) || is_in_range 97 102 u) ≡ is_digit u 16
hexadecimal_in u = grind (arith, nat_tests)

lane_top : (t : Bool) → top 15 (lane t) ≡ not t
lane_top true = refl
lane_top false = refl

mask_is : (h : ℕ) (q : ℕ → Bool) (f : ℕ → ℕ) → ((u : ℕ) → top h (f u) ≡ not (q u)) → (v : List ℕ) → length v ≡ 16 → (z : List ℕ) → z ≡ map f v → mask_l (map (top h) z) % 2 ^ 64 ≡ mask_l (map (λ u. not (q u)) v)
mask_is h q f tops v long z lanes =
    ap (λ l. mask_l l % 2 ^ 64) (ap (map (top h)) lanes ∙ map-map (top h) f v ∙ (λ j. map (λ u. tops u j) v))
    ∙ mask_l-mod (map (λ u. not (q u)) v) 64 (omega (arith, length-map v (λ u. not (q u))))

-- a bit for each lane that is not of a kind
bits : (q : ℕ → Bool) (v : List ℕ) → length v ≡ 16 → (z : List ℕ) → z ≡ map (λ u. lane (q u)) v → mask_l (map (top 15) z) % 2 ^ 64 ≡ mask_l (map (λ u. not (q u)) v)
bits q v long z lanes = mask_is 15 q (λ u. lane (q u)) (λ u. lane_top (q u)) v long z lanes

abbrev pub below : List ℕ → ℕ → List ℕ
below v low = zip2 (λ a b. cond (ltb a b) 65535 0) v (replicate 16 low)

abbrev pub above : List ℕ → ℕ → List ℕ
above v high = zip2 (λ a b. cond (ltb a b) 65535 0) (replicate 16 high) v

abbrev pub differ : List ℕ → ℕ → List ℕ
differ v u = zip2 (λ a b. cond (not (eqb a b)) 65535 0) v (replicate 16 u)

abbrev pub bitmask : List ℕ → ℕ
bitmask z = mask_l (map (top 15) z) % 2 ^ 64

module _ (v : List ℕ) (long : length v ≡ 16) where
  outside : (low high : ℕ) → zip2 bit_or (below v low) (above v high) ≡ map (λ u. lane (is_in_range low high u)) v
  outside low high = outside_lanes low high v long

  unlike : (w : ℕ) → differ v w ≡ map (λ u. lane (u == w)) v
  unlike w = zip2_splat (λ a b. cond (not (eqb a b)) 65535 0) v 16 w long ∙ (λ j. map (λ u. ne_lane u w j) v)

  pub digit_bits : bitmask (zip2 bit_or (below v 48) (above v 57)) ≡ mask_l (map (λ u. not (is_of Digit u)) v)
  digit_bits = bits (is_of Digit) v long _ (outside 48 57 ∙ (λ j. map (λ u. lane (digit_in u j)) v))

  pub hexadecimal_bits : bitmask (zip2 bit_and (zip2 bit_and (zip2 bit_or (below v 48) (above v 57)) (zip2 bit_or (below v 65) (above v 70))) (zip2 bit_or (below v 97) (above v 102))) ≡ mask_l (map (λ u. not (is_of Hexadecimal u)) v)
  hexadecimal_bits =
      let two = both_lanes (λ u. is_in_range 48 57 u) (λ u. is_in_range 65 70 u) v _ _ (outside 48 57) (outside 65 70) in
      bits (is_of Hexadecimal) v long _ (both_lanes (λ u. is_in_range 48 57 u || is_in_range 65 70 u) (λ u. is_in_range 97 102 u) v _ _ two (outside 97 102) ∙ (λ j. map (λ u. lane (hexadecimal_in u j)) v))

  pub zero_bits : bitmask (differ v 48) ≡ mask_l (map (λ u. not (is_of Zero u)) v)
  zero_bits = bits (is_of Zero) v long _ (unlike 48)

  pub blank_bits : bitmask (zip2 bit_and (zip2 bit_or (below v 9) (above v 13)) (differ v 32)) ≡ mask_l (map (λ u. not (is_of Blank u)) v)
  blank_bits = bits (is_of Blank) v long _ (both_lanes (λ u. is_in_range 9 13 u) (λ u. u == 32) v _ _ (outside 9 13) (unlike 32))

  pub ascii_bits : bitmask (above v 127) ≡ mask_l (map (λ u. not (is_of Ascii u)) v)
  ascii_bits = bits (is_of Ascii) v long _ (zip2_splat_left (λ a b. cond (ltb a b) 65535 0) 127 16 v long ∙ (λ j. map (λ u. above_lane u j) v))

-- where no bit is set, each unit under the load passes
pub all_pass : (q : ℕ → Bool) (us : List ℕ) (at : ℕ) → at + 16 ≤ length us → mask_l (map (λ u. not (q u)) (chunk at 16 us)) ≡ 0 → (k : ℕ) → at ≤ k → k < at + 16 → q (get_or us k 0) ≡ true
all_pass q us at room none k from to = not-false (q (get_or us k 0)) (none_from_empty_mask (λ u. not (q u)) us at 16 0 room none k from to)

-- a byte is ASCII where it is at most 127
byte_top : (u : ℕ) → top 7 (cond (ltb 127 u) 255 0) ≡ not (nat_lt u 128)
byte_top u = by (ltb 127 u) refl
  where
    by : (b : Bool) → ltb 127 u ≡ b → top 7 (cond b 255 0) ≡ not (nat_lt u 128)
    by true e = sym (ap not (lt-leb (suc u) 128 (omega (arith, ltb-true 127 u e))))
    by false e = sym (ap not (le-leb (suc u) 128 (omega (arith, ltb-false 127 u e))))

-- a bit for each byte that is not ASCII
pub byte_bits : (v : List ℕ) → length v ≡ 16 → mask_l (map (top 7) (zip2 (λ a b. cond (ltb a b) 255 0) (replicate 16 127) v)) % 2 ^ 64 ≡ mask_l (map (λ u. not (nat_lt u 128)) v)
byte_bits v long = mask_is 7 (λ u. nat_lt u 128) (λ u. cond (ltb 127 u) 255 0) byte_top v long _ (zip2_splat_left (λ a b. cond (ltb a b) 255 0) 127 16 v long)
