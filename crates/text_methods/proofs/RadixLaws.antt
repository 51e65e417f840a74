-- The digits of a number, the last first.
use Rattle.std.proofs.Common.{◌≡◌, ℕ, zero, suc, ◌+◌, ◌-◌, ◌*◌, ◌^◌, ◌<◌, ◌≤◌, List, [], ◌∷◌, ◌++◌, length, reverse, true, false, refl, sym, ap, subst, ◌∙◌, arith, if◌then◌else◌}
use Rattle.std.specs.Prelude.{◌/◌, ◌%◌, ◌==◌}
use Rattle.std.specs.Fmt.{digit_glyph, digits, digits_onto}
use Rattle.std.proofs.Math.Nat.{mul-le-mul_right, two-pow-succ}
use Rattle.std.proofs.lemmas.Bool.{ne_eqb}
use Rattle.std.proofs.lemmas.List.{length_push, reverse-append, reverse-reverse}

some_left : (radix q r n : ℕ) → radix * q + r ≡ n → r < radix → radix ≤ n → (q == 0) ≡ false
some_left radix zero r n e lt le = absurd (omega (arith, e, lt, le))
some_left radix (suc q) r n e lt le = ne_eqb (suc q) 0 (λ z. absurd (omega (arith, z)))

none_left : (radix q r n : ℕ) → radix * q + r ≡ n → n < radix → (q == 0) ≡ true
none_left radix zero r n e lt = refl
none_left radix (suc q) r n e lt = absurd (omega (arith, e, lt))

digit_step : (k radix n : ℕ) (acc : List ℕ) → 2 ≤ radix → radix ≤ n → digits_onto (suc k) radix false n acc ≡ digits_onto k radix false (n / radix) (digit_glyph false (n % radix) ∷ acc)
digit_step k radix n acc two le =
    let e : radix * (n / radix) + n % radix ≡ n = omega (arith, two) in
    let lt : n % radix < radix = omega (arith, two) in
    ap (λ b. if b then digit_glyph false (n % radix) ∷ acc else digits_onto k radix false (n / radix) (digit_glyph false (n % radix) ∷ acc)) (some_left radix (n / radix) (n % radix) n e lt le)

digit_last : (k radix n : ℕ) (acc : List ℕ) → 2 ≤ radix → n < radix → digits_onto (suc k) radix false n acc ≡ digit_glyph false n ∷ acc
digit_last k radix n acc two less =
    let e : radix * (n / radix) + n % radix ≡ n = omega (arith, two) in
    ap (λ b. if b then digit_glyph false (n % radix) ∷ acc else digits_onto k radix false (n / radix) (digit_glyph false (n % radix) ∷ acc)) (none_left radix (n / radix) (n % radix) n e less)
    ∙ ap (λ d. digit_glyph false d ∷ acc) (whole (n / radix) e)
  where
    whole : (q : ℕ) → radix * q + n % radix ≡ n → n % radix ≡ n
    whole zero e = omega (arith, e)
    whole (suc q) e = absurd (omega (arith, e, less))

halved : (k radix q r n : ℕ) → radix * q + r ≡ n → 2 ≤ radix → n < 2 ^ suc k → q < 2 ^ k
halved k radix q r n e two lt = omega (arith, e, lt, mul-le-mul_right q two, two-pow-succ k)

backwards : (xs : List ℕ) (x : ℕ) → reverse (xs ++ x ∷ []) ≡ x ∷ reverse xs
backwards xs x = reverse-append xs (x ∷ [])

-- so many digits are made, and the rest is made from what is left
pub record IsMaking (radix n rest : ℕ) (made : List ℕ) : Type 0 where
  pub few : length made < 64
  pub small : rest < 2 ^ (64 - length made)
  pub same : digits_onto (64 - length made) radix false rest (reverse made) ≡ digits radix false n

pub making_starts : (radix n : ℕ) → n < 2 ^ 64 → IsMaking radix n n []
unfolding digits
making_starts radix n lt = record { few = omega arith; small = lt; same = refl }

pub making_goes : (radix n rest x : ℕ) (made : List ℕ) → 2 ≤ radix → radix ≤ rest → x ≡ digit_glyph false (rest % radix) → IsMaking radix n rest made → IsMaking radix n (rest / radix) (made ++ x ∷ [])
making_goes radix n rest x made two le is h = by (64 - length (made ++ x ∷ [])) refl
  where
    by : (k : ℕ) → k ≡ 64 - length (made ++ x ∷ []) → IsMaking radix n (rest / radix) (made ++ x ∷ [])
    by k e =
        let l = length_push made x in
        let s : 64 - length made ≡ suc k = omega (arith, e, l, h.few) in
        let d : radix * (rest / radix) + rest % radix ≡ rest = omega (arith, two) in
        let small : rest < 2 ^ suc k = subst (λ (m : ℕ). rest < 2 ^ m) s h.small in
        record {
          few = more k small (omega (arith, e, l, h.few));
          small = subst (λ (m : ℕ). rest / radix < 2 ^ m) e (halved k radix (rest / radix) (rest % radix) rest d two small);
          same =
              (λ j. digits_onto (sym e j) radix false (rest / radix) (backwards made x j))
              ∙ ap (λ y. digits_onto k radix false (rest / radix) (y ∷ reverse made)) is
              ∙ sym (digit_step k radix rest (reverse made) two le)
              ∙ ap (λ m. digits_onto m radix false rest (reverse made)) (sym s)
              ∙ h.same;
        }
      where
        more : (k : ℕ) → rest < 2 ^ suc k → length (made ++ x ∷ []) + k ≡ 64 → length (made ++ x ∷ []) < 64
        more zero lt e = absurd (omega (arith, lt, two, le))
        more (suc k) lt e = omega (arith, e)

pub making_ends : (radix n rest x : ℕ) (made : List ℕ) → 2 ≤ radix → rest < radix → x ≡ digit_glyph false rest → IsMaking radix n rest made → made ++ x ∷ [] ≡ reverse (digits radix false n)
making_ends radix n rest x made two less is h = by (63 - length made) refl
  where
    by : (k : ℕ) → k ≡ 63 - length made → made ++ x ∷ [] ≡ reverse (digits radix false n)
    by k e =
        let s : 64 - length made ≡ suc k = omega (arith, e, h.few) in
        let d : x ∷ reverse made ≡ digits radix false n =
        ap (λ y. y ∷ reverse made) is
        ∙ sym (digit_last k radix rest (reverse made) two less)
        ∙ ap (λ m. digits_onto m radix false rest (reverse made)) (sym s)
        ∙ h.same in
        sym (reverse-reverse (made ++ x ∷ [])) ∙ ap reverse (backwards made x ∙ d)
