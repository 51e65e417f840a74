-- The longest number.
use Rattle.std.proofs.Common.{◌≡◌, ℕ, ◌≤◌, ◌⊎◌, List, [], ◌∷◌, length, Bool, true, false, refl, ap, ◌∙◌, arith, inl, inr, subst, sym}
use Rattle.std.specs.Prelude.{nat_eq, ◌&&◌, ◌||◌}
use Rattle.std.proofs.lemmas.Bool.{cond_both, eqb-true, or_cases, and_parts, false≢true, both_ways}
use Rattle.std.proofs.lemmas.Bool.Decides.{nat_tests}
use Rattle.js_tokens.specs.Characters.{is_digit, is_hex_digit, Begins, Starts}
use Rattle.js_tokens.specs.Lexes.{Run, Fraction, Plus, Exponent, Number}
use Rattle.js_tokens.specs.Lexes.Run.{none, more}
use Rattle.js_tokens.specs.Lexes.Fraction.{no_fraction, fraction}
use Rattle.js_tokens.specs.Lexes.Plus.{no_sign, sign}
use Rattle.js_tokens.specs.Lexes.Exponent.{no_exponent, exponent}
use Rattle.js_tokens.specs.Lexes.Number.{hexadecimal, decimal, point}
use Rattle.js_tokens.specs.Scan.{tail, after_run, after_sign, has_exponent, after_exponent, after_fraction, after_decimal, is_hexadecimal, after_number}
use Rattle.js_tokens.proofs.Runs.{Suffix, whole, next, suffix_length, suffix_more, run_suffix, run_sound, run_longest, stopped, after_run_suffix, tail_suffix}

-- a character that passes this test is one of two
abbrev is_one : ℕ → ℕ → ℕ → Bool
is_one m n c = nat_eq c m || nat_eq c n

one_of : (m n c : ℕ) (P : ℕ → Type 0) → is_one m n c ≡ true → P m → P n → P c
one_of m n c P e p q = elim (or_cases (nat_eq c m) (nat_eq c n) e) [ inl a ↦ subst P (sym (eqb-true c m a)) p | inr b ↦ subst P (sym (eqb-true c n b)) q ]

no_digit_e : (c : ℕ) → is_one 101 69 c ≡ true → is_digit c ≡ false
no_digit_e c e = one_of 101 69 c (λ x. is_digit x ≡ false) e refl refl

no_point_e : (c : ℕ) → is_one 101 69 c ≡ true → nat_eq c 46 ≡ false
no_point_e c e = one_of 101 69 c (λ x. nat_eq x 46 ≡ false) e refl refl

no_digit_point : (c : ℕ) → c ≡ 46 → is_digit c ≡ false
no_digit_point c e = ap is_digit e

no_digit_sign : (c : ℕ) → is_one 43 45 c ≡ true → is_digit c ≡ false
no_digit_sign c e = one_of 43 45 c (λ x. is_digit x ≡ false) e refl refl

-- sound

pub fraction_sound : (cs : List ℕ) → Fraction cs (after_fraction cs)
fraction_sound [] = no_fraction
fraction_sound (c ∷ cs) = cond_both (nat_eq c 46) (after_run is_digit cs) (c ∷ cs) (λ r. Fraction (c ∷ cs) r) (λ e. fraction (eqb-true c 46 e) (run_sound is_digit cs)) (λ e. no_fraction)

sign_sound : (cs : List ℕ) → Plus cs (after_sign cs)
sign_sound [] = no_sign
sign_sound (c ∷ cs) = cond_both (is_one 43 45 c) cs (c ∷ cs) (λ r. Plus (c ∷ cs) r) (λ e. sign e) (λ e. no_sign)

exponent_at : (c : ℕ) (cs es : List ℕ) → is_one 101 69 c ≡ true → Plus cs es → Begins is_digit es ≡ true → Exponent (c ∷ cs) (after_run is_digit es)
exponent_at c cs [] e s h = cc
exponent_at c cs (d ∷ ds) e s h = rw h (exponent e s h (run_sound is_digit ds))

pub exponent_sound : (cs : List ℕ) → Exponent cs (after_exponent cs)
exponent_sound [] = no_exponent
exponent_sound (c ∷ cs) =
    cond_both (has_exponent (c ∷ cs)) (after_run is_digit (after_sign cs)) (c ∷ cs) (λ r. Exponent (c ∷ cs) r)
    (λ e. let p = and_parts (is_one 101 69 c) (Begins is_digit (after_sign cs)) e in exponent_at c cs (after_sign cs) (p.0) (sign_sound cs) (p.1))
    (λ e. no_exponent)

hex_at : (c : ℕ) (cs : List ℕ) → is_hexadecimal c cs ≡ true → Number (c ∷ cs) (after_run is_hex_digit (tail cs))
hex_at c [] e = let p = and_parts (nat_eq c 48) false e in absurd (false≢true (p.1))
hex_at c (x ∷ []) e = let p = and_parts (nat_eq c 48) (is_one 120 88 x && false) e in let q = and_parts (is_one 120 88 x) false (p.1) in absurd (false≢true (q.1))
hex_at c (x ∷ d ∷ cs) e =
    let p = and_parts (nat_eq c 48) (is_one 120 88 x && is_hex_digit d) e in
    let q = and_parts (is_one 120 88 x) (is_hex_digit d) (p.1) in
    rw (q.1) (hexadecimal (eqb-true c 48 (p.0)) (q.0) (q.1) (run_sound is_hex_digit cs))

pub number_sound : (c : ℕ) (cs : List ℕ) → is_digit c ≡ true → Number (c ∷ cs) (after_number c cs)
number_sound c cs d =
    cond_both (is_hexadecimal c cs) (after_run is_hex_digit (tail cs)) (after_decimal cs) (λ r. Number (c ∷ cs) r)
    (λ e. hex_at c cs e)
    (λ e. decimal d (run_sound is_digit cs) (fraction_sound (after_run is_digit cs)) (exponent_sound (after_fraction (after_run is_digit cs))))

pub point_sound : (c : ℕ) (cs : List ℕ) → c ≡ 46 → Begins is_digit cs ≡ true → Number (c ∷ cs) (after_exponent (after_run is_digit cs))
point_sound c [] e h = cc
point_sound c (d ∷ cs) e h = rw h (point e h (run_sound is_digit cs) (exponent_sound (after_run is_digit cs)))

-- ends

pub fraction_suffix : {cs rest : List ℕ} → Fraction cs rest → Suffix cs rest
fraction_suffix no_fraction = whole
fraction_suffix (fraction e r) = next (run_suffix r)

sign_suffix : {cs rest : List ℕ} → Plus cs rest → Suffix cs rest
sign_suffix no_sign = whole
sign_suffix (sign e) = next whole

pub exponent_suffix : {cs rest : List ℕ} → Exponent cs rest → Suffix cs rest
exponent_suffix no_exponent = whole
exponent_suffix (exponent e s d r) = next (suffix_more (sign_suffix s) (next (run_suffix r)))

pub number_suffix : {cs rest : List ℕ} → Number cs rest → Suffix cs rest
number_suffix (hexadecimal a b c r) = next (next (next (run_suffix r)))
number_suffix (decimal d r f e) = next (suffix_more (run_suffix r) (suffix_more (fraction_suffix f) (exponent_suffix e)))
number_suffix (point e d r x) = next (next (suffix_more (run_suffix r) (exponent_suffix x)))

pub after_exponent_suffix : (cs : List ℕ) → Suffix cs (after_exponent cs)
after_exponent_suffix cs = exponent_suffix (exponent_sound cs)

after_fraction_suffix : (cs : List ℕ) → Suffix cs (after_fraction cs)
after_fraction_suffix cs = fraction_suffix (fraction_sound cs)

-- longest

sign_digit : (cs : List ℕ) (d : ℕ) (ds : List ℕ) → Plus cs (d ∷ ds) → is_digit d ≡ true → after_sign cs ≡ d ∷ ds
sign_digit cs d ds no_sign h = cond_both (is_one 43 45 d) ds (d ∷ ds) (λ r. r ≡ d ∷ ds) (λ e. let no = no_digit_sign d e in cc) (λ e. refl)
sign_digit cs d ds (sign e) h = rw e refl

exponent_longest : {cs other : List ℕ} → Exponent cs other → length (after_exponent cs) ≤ length other
exponent_longest {cs} no_exponent = suffix_length (after_exponent_suffix cs)
exponent_longest (exponent {c} {d} {cs} {ds} {rest} e s h r) =
    let same : after_sign cs ≡ d ∷ ds = sign_digit cs d ds s h in
    rw (same, e, h) (run_longest r)

-- an exponent is empty, or goes on with no digit and no point
exponent_stops : {cs other : List ℕ} → Exponent cs other → (cs ≡ other) ⊎ ((Begins is_digit cs ≡ false) × (Starts 46 cs ≡ false))
exponent_stops no_exponent = inl refl
exponent_stops (exponent {c} e s h r) = inr (no_digit_e c e, no_point_e c e)

no_point : (cs : List ℕ) → Starts 46 cs ≡ false → after_fraction cs ≡ cs
no_point [] e = refl
no_point (c ∷ cs) e = rw e refl

run_exponent : {cs es other : List ℕ} → Run is_digit cs es → Exponent es other → length (after_exponent (after_run is_digit cs)) ≤ length other
run_exponent {cs} {es} {other} none x =
    elim (exponent_stops x) [
      | inl e ↦ subst (λ y. length (after_exponent (after_run is_digit cs)) ≤ length y) e (suffix_length (suffix_more (after_run_suffix is_digit cs) (after_exponent_suffix (after_run is_digit cs))))
      | inr h ↦ subst (λ y. length (after_exponent y) ≤ length other) (sym (stopped is_digit cs (h.0))) (exponent_longest x)
    ]
run_exponent (more e r) x = rw e (run_exponent r x)

fraction_exponent : {cs es other : List ℕ} → Fraction cs es → Exponent es other → length (after_exponent (after_fraction cs)) ≤ length other
fraction_exponent {cs} {es} {other} no_fraction x =
    elim (exponent_stops x) [
      | inl e ↦ subst (λ y. length (after_exponent (after_fraction cs)) ≤ length y) e (suffix_length (suffix_more (after_fraction_suffix cs) (after_exponent_suffix (after_fraction cs))))
      | inr h ↦ subst (λ y. length (after_exponent y) ≤ length other) (sym (no_point cs (h.1))) (exponent_longest x)
    ]
fraction_exponent (fraction {c} e r) x = let here : nat_eq c 46 ≡ true = ap (λ y. nat_eq y 46) e in rw here (run_exponent r x)

-- a fraction is empty, or begins with no digit
fraction_stops : {cs es : List ℕ} → Fraction cs es → (cs ≡ es) ⊎ (Begins is_digit cs ≡ false)
fraction_stops no_fraction = inl refl
fraction_stops (fraction {c} e r) = inr (no_digit_point c e)

decimal_suffix : (cs : List ℕ) → Suffix cs (after_decimal cs)
decimal_suffix cs = suffix_more (after_run_suffix is_digit cs) (suffix_more (after_fraction_suffix (after_run is_digit cs)) (after_exponent_suffix (after_fraction (after_run is_digit cs))))

stopped_decimal : {cs es other : List ℕ} → Begins is_digit cs ≡ false → Fraction cs es → Exponent es other → length (after_decimal cs) ≤ length other
stopped_decimal {cs} {es} {other} stop f x = subst (λ y. length (after_exponent (after_fraction y)) ≤ length other) (sym (stopped is_digit cs stop)) (fraction_exponent f x)

run_fraction : {cs ds es other : List ℕ} → Run is_digit cs ds → Fraction ds es → Exponent es other → length (after_decimal cs) ≤ length other
run_fraction {cs} {ds} {es} {other} none f x =
    elim (fraction_stops f) [
      | inl e ↦
          elim (exponent_stops x) [
            | inl g ↦ subst (λ y. length (after_decimal cs) ≤ length y) (e ∙ g) (suffix_length (decimal_suffix cs))
            | inr h ↦ stopped_decimal (ap (Begins is_digit) e ∙ h.0) f x
          ]
      | inr stop ↦ stopped_decimal stop f x
    ]
run_fraction (more e r) f x = rw e (run_fraction r f x)

-- where a hexadecimal number begins, its first digit is the only other number
hex_least : {b : ℕ} (cs es other : List ℕ) → is_one 120 88 b ≡ true → Fraction (b ∷ cs) es → Exponent es other → b ∷ cs ≡ other
hex_least cs es other e no_fraction no_exponent = refl
hex_least {b} cs es other e no_fraction (exponent f s h r) = let no : is_one 101 69 b ≡ false = one_of 120 88 b (λ x. is_one 101 69 x ≡ false) e refl refl in cc
hex_least {b} cs es other e (fraction f r) x = let no : nat_eq b 46 ≡ false = one_of 120 88 b (λ x. nat_eq x 46 ≡ false) e refl refl in let is : nat_eq b 46 ≡ true = ap (λ x. nat_eq x 46) f in cc

hex_decimal : (c : ℕ) (cs ds es other : List ℕ) → is_hexadecimal c cs ≡ true → Run is_digit cs ds → Fraction ds es → Exponent es other → cs ≡ other
hex_decimal c [] ds es other e r f x = absurd (false≢true (and_parts (nat_eq c 48) false e).1)
hex_decimal c (b ∷ cs) ds es other e none f x = hex_least cs es other (and_parts (is_one 120 88 b) (Begins is_hex_digit cs) (and_parts (nat_eq c 48) (is_one 120 88 b && Begins is_hex_digit cs) e).1).0 f x
hex_decimal c (b ∷ cs) ds es other e (more d r) f x =
    let is_x : is_one 120 88 b ≡ true = (and_parts (is_one 120 88 b) (Begins is_hex_digit cs) (and_parts (nat_eq c 48) (is_one 120 88 b && Begins is_hex_digit cs) e).1).0 in
    let no : is_digit b ≡ false = one_of 120 88 b (λ x. is_digit x ≡ false) is_x refl refl in
    cc

hex_suffix : (cs : List ℕ) → Suffix cs (after_run is_hex_digit (tail cs))
hex_suffix cs = suffix_more (tail_suffix cs) (after_run_suffix is_hex_digit (tail cs))

-- a byte is not two numbers; a tactic at numerals would count
differ : {c : ℕ} (m n : ℕ) → c ≡ m → c ≡ n → nat_eq m n ≡ false → ⊥
differ m n e f d = grind (arith, nat_tests)

pub number_longest : (c : ℕ) (cs other : List ℕ) → is_digit c ≡ true → Number (c ∷ cs) other → length (after_number c cs) ≤ length other
number_longest c cs other d (hexadecimal a b e r) = let zero_is : nat_eq c 48 ≡ true = ap (λ x. nat_eq x 48) a in rw (zero_is, b, e) (run_longest r)
number_longest c cs other d (decimal h r f x) =
    cond_both (is_hexadecimal c cs) (after_run is_hex_digit (tail cs)) (after_decimal cs) (λ y. length y ≤ length other)
    (λ e. subst (λ y. length (after_run is_hex_digit (tail cs)) ≤ length y) (hex_decimal c cs _ _ other e r f x) (suffix_length (hex_suffix cs)))
    (λ e. run_fraction r f x)
number_longest c cs other d (point e h r x) = absurd (both_ways (is_digit c) (no_digit_point c e) d)

pub point_longest : (c : ℕ) (cs other : List ℕ) → c ≡ 46 → Number (c ∷ cs) other → length (after_exponent (after_run is_digit cs)) ≤ length other
point_longest c cs other p (hexadecimal a b e r) = absurd (differ 46 48 p a refl)
point_longest c cs other p (decimal h r f x) = absurd (both_ways (is_digit c) (no_digit_point c p) h)
point_longest c cs other p (point {d = d} e h r x) = run_exponent (more {c = d} h r) x

pub point_digit : (c : ℕ) (cs other : List ℕ) → c ≡ 46 → Number (c ∷ cs) other → Begins is_digit cs ≡ true
point_digit c cs other p (hexadecimal a b e r) = absurd (differ 46 48 p a refl)
point_digit c cs other p (decimal h r f x) = absurd (both_ways (is_digit c) (no_digit_point c p) h)
point_digit c cs other p (point e h r x) = h

pub number_first : (c : ℕ) (cs other : List ℕ) → Number (c ∷ cs) other → (is_digit c ≡ true) ⊎ (c ≡ 46)
number_first c cs other (hexadecimal a b e r) = inl (ap is_digit a)
number_first c cs other (decimal h r f x) = inl h
number_first c cs other (point e h r x) = inr e
