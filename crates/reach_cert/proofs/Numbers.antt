-- Words that are numbers.
use Rattle.std.proofs.Common.{◌≡◌, ℕ, ◌+◌, ◌-◌, ◌*◌, ◌^◌, ◌<◌, ◌≤◌, Bool, true, false, ◌&&◌, List, length, take, get_or, refl, sym, ap, ◌∙◌, subst, arith, Option, Some, None, nat_lt, lt-ltb, le-ltb, ltb-true, min, if◌then◌else◌}
use Rattle.std.specs.Char.{digit_value}
use Rattle.std.specs.Fmt.{decimal}
use Rattle.std.specs.Str.{bytes_eq}
use Rattle.std.specs.Str.Parse.{AllDigits, digits_value}
use Rattle.std.proofs.lemmas.Fmt.{decimal_is_IsNumeral}
use Rattle.std.proofs.lemmas.Int.Digits.{digits_value_more}
use Rattle.std.proofs.lemmas.List.{take_all}
use Rattle.std.proofs.lemmas.Slice.Eq.{bytes_eq-Decides}
use Rattle.std.proofs.lemmas.Str.Parse.{digits_value-take-le, digit_at}
use Rattle.reach_cert.specs.Words.{number_in}

-- the word is the text of the number
pub number_known : (word : List ℕ) (n : ℕ) → number_in word ≡ Some n → (decimal n ≡ word) × (n < 2 ^ 32)
unfolding number_in
number_known word n = by (digits_value 10 word) (bytes_eq word (decimal (digits_value 10 word))) (nat_lt (digits_value 10 word) (2 ^ 32)) refl refl
  where
    by : (v : ℕ) (a b : Bool) → bytes_eq word (decimal v) ≡ a → nat_lt v (2 ^ 32) ≡ b → (if a && b then Some v else None) ≡ Some n → (decimal n ≡ word) × (n < 2 ^ 32)
    by v true true same small is =
        let e : v ≡ n = cc in
        (ap decimal (sym e) ∙ sym ((bytes_eq-Decides word (decimal v)).0 same), subst (λ m. m < 2 ^ 32) e (ltb-true v (2 ^ 32) small))
    by v true false same small is = cc
    by v false b same small is = cc

pub number_only : (word : List ℕ) (n : ℕ) → n < 2 ^ 32 → decimal n ≡ word → number_in word ≡ Some n
unfolding number_in
number_only word n small is =
    let numeral = decimal_is_IsNumeral n (omega arith) in
    let same : bytes_eq (decimal n) (decimal n) ≡ true = (bytes_eq-Decides (decimal n) (decimal n)).1 refl in
    subst (λ x. number_in x ≡ Some n) is (rw numeral.1 (λ j. if same j && lt-ltb n (2 ^ 32) small j then Some n else None))

-- a number that is found by another way
pub number_none : (word : List ℕ) (v : ℕ) → ((n : ℕ) → n < 2 ^ 32 → decimal n ≡ word → v ≡ n) → ((word ≡ decimal v) → v < 2 ^ 32 → ⊥) → None ≡ number_in word
number_none word v finds not = by (number_in word) refl
  where
    by : (r : Option ℕ) → number_in word ≡ r → None ≡ number_in word
    by None e = sym e
    by (Some n) e =
        let k = number_known word n e in
        let same : v ≡ n = finds n (k.1) (k.0) in
        absurd (not (sym (k.0) ∙ ap decimal (sym same)) (subst (λ m. m < 2 ^ 32) (sym same) (k.1)))

decimal_value : (c : ℕ) → (48 ≤ c) × (c ≤ 57) → digit_value c ≡ c - 48
decimal_value c h =
    let low : nat_lt c 48 ≡ false = le-ltb c 48 (h.0) in
    let high : nat_lt c 58 ≡ true = lt-ltb c 58 (omega (arith, h.1)) in
    rw (low, high) refl

-- one digit more
pub value_more : (word : List ℕ) (i v w d n : ℕ) → i < length word → n < 2 ^ 32 → decimal n ≡ word → v ≡ digits_value 10 (take i word) → d ≡ get_or word i 0 - 48 → w ≡ min (2 ^ 32) (v * 10 + d) → w ≡ digits_value 10 (take (i + 1) word)
value_more word i v w d n lt small is so_far digit made =
    let whole = decimal_is_IsNumeral n (omega arith) in
    let total : digits_value 10 word ≡ n = ap (digits_value 10) (sym is) ∙ whole.1 in
    let all = subst (AllDigits 10) is (whole.0.1) in
    let c = get_or word i 0 in
    let digit_is : digit_value c ≡ c - 48 = decimal_value c (digit_at word i all lt) in
    let more = digits_value_more 10 word i lt in
    let below = digits_value-take-le 10 word (i + 1) (omega arith) in
    omega (arith, total, so_far, digit, made, digit_is, more, below, small)

-- of all digits
pub value_all : (word : List ℕ) (i v n : ℕ) → length word ≤ i → n < 2 ^ 32 → decimal n ≡ word → v ≡ digits_value 10 (take i word) → v ≡ n
value_all word i v n past small is so_far = so_far ∙ ap (digits_value 10) (take_all i word past) ∙ ap (digits_value 10) (sym is) ∙ (decimal_is_IsNumeral n (omega arith)).1
