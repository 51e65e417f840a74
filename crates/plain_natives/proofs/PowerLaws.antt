-- Powers of whole numbers.
use Rattle.std.proofs.Common.{◌≡◌, ℕ, zero, suc, ◌*◌, ◌^◌, ◌<◌, ◌≤◌, ℤ, pos, negsuc, neg_ℤ, unsigned_abs, Bool, true, false, cond, refl, sym, ap, ◌∙◌, arith, rules, w64, if◌then◌else◌}
use Rattle.std.specs.Prelude.{◌==◌, ◌%◌, ◌*ℤ◌}
use Rattle.std.specs.Int.{int_pow}
use mir.Val.{SFits}
use Rattle.std.proofs.Math.Nat.{pow-suc, pow-le-pow_left, pow-le-pow_right}
use Rattle.widget_meaning.specs.Values.{Num}
use Rattle.widget_meaning.specs.Limits.{past_numbers}
use Rattle.widget_meaning.specs.Operators.{Gives, Leaves, number}
use Rattle.native_common.proofs.Loops.{over_no}

one_pow : (n : ℕ) → 1 ^ n ≡ 1
one_pow zero = refl
one_pow (suc n) = pow-suc 1 n ∙ ap (λ k. k * 1) (one_pow n)

zero_pow : (n : ℕ) → 0 < n → 0 ^ n ≡ 0
zero_pow zero lt = absurd (omega (arith, lt))
zero_pow (suc n) lt = pow-suc 0 n ∙ omega arith

abs_neg : (n : ℕ) → unsigned_abs (neg_ℤ (pos n)) ≡ n
abs_neg zero = refl
abs_neg (suc n) = refl

abs_pow : (x : ℤ) (n : ℕ) → unsigned_abs (int_pow x n) ≡ unsigned_abs x ^ n
abs_pow (pos a) n = refl
abs_pow (negsuc a) n = by (n % 2 == 0)
  where
    by : (b : Bool) → unsigned_abs (cond b (pos (suc a ^ n)) (neg_ℤ (pos (suc a ^ n)))) ≡ suc a ^ n
    by true = refl
    by false = abs_neg (suc a ^ n)

-- of 0, 1 and -1
pub even_power : (x : ℤ) (n : ℕ) → unsigned_abs x ≤ 1 → 0 < n → (n % 2 == 0) ≡ true → x *ℤ x ≡ int_pow x n
even_power (pos zero) n h lt e = ap pos (sym (zero_pow n lt))
even_power (pos (suc zero)) n h lt e = ap pos (sym (one_pow n))
even_power (pos (suc (suc a))) n h lt e = absurd (omega (arith, h))
even_power (negsuc zero) n h lt e = sym (ap (λ b. cond b (pos (1 ^ n)) (neg_ℤ (pos (1 ^ n)))) e ∙ ap pos (one_pow n))
even_power (negsuc (suc a)) n h lt e = absurd (omega (arith, h))

pub odd_power : (x : ℤ) (n : ℕ) → unsigned_abs x ≤ 1 → 0 < n → (n % 2 == 0) ≡ false → x ≡ int_pow x n
odd_power (pos zero) n h lt e = ap pos (sym (zero_pow n lt))
odd_power (pos (suc zero)) n h lt e = ap pos (sym (one_pow n))
odd_power (pos (suc (suc a))) n h lt e = absurd (omega (arith, h))
odd_power (negsuc zero) n h lt e = sym (ap (λ b. cond b (pos (1 ^ n)) (neg_ℤ (pos (1 ^ n)))) e ∙ ap (λ k. neg_ℤ (pos k)) (one_pow n))
odd_power (negsuc (suc a)) n h lt e = absurd (omega (arith, h))

-- past the numbers
past : (z : ℤ) → past_numbers ≤ unsigned_abs z → number z ≡ Leaves
past z h = ap (λ b. if b then Gives (Num z) else Leaves) (over_no (unsigned_abs z) past_numbers h)

pub high_power : (x : ℤ) (n : ℕ) → 2 ≤ unsigned_abs x → 53 ≤ n → number (int_pow x n) ≡ Leaves
high_power x n big high =
    let a : 2 ^ n ≤ unsigned_abs x ^ n = pow-le-pow_left big n in
    let b : 2 ^ 53 ≤ 2 ^ n = pow-le-pow_right (omega arith) high in
    past (int_pow x n) (omega (arith, a, b, abs_pow x n))

pub fits_unit : (x : ℤ) → unsigned_abs x ≤ 1 → SFits w64 (x *ℤ x)
fits_unit (pos zero) h = search rules
fits_unit (pos (suc zero)) h = search rules
fits_unit (pos (suc (suc a))) h = absurd (omega (arith, h))
fits_unit (negsuc zero) h = search rules
fits_unit (negsuc (suc a)) h = absurd (omega (arith, h))
