-- What stands before and after the first element that passes.
use Rattle.std.proofs.Common.{◌≡◌, ℕ, suc, ◌+◌, ◌<◌, ◌≤◌, Bool, true, false, cond, nat_lt, List, [], ◌∷◌, ◌++◌, length, length-append, get_or, ltb-true, ltb-false, take, drop, refl, sym, ap, ◌∙◌, arith, lt-ltb}
use Rattle.std.specs.Prelude.{◌||◌, not}
use Rattle.std.specs.List.{position_or_len, before_first, after_first, list_any}
use Rattle.std.proofs.lemmas.Bool.Decides.{nat_tests}
use Rattle.std.proofs.lemmas.List.{take_all, drop_all}
use Rattle.std.proofs.lemmas.List.Sums.{split_at_first, passes_at_first}
use Rattle.std.proofs.Math.Seq.{take-append_seam, drop-append-add}

-- the list is front, a first element that passes, and back
pub record IsCut (p : ℕ → Bool) (xs front back : List ℕ) : Type 0 where
  pub before : before_first p xs ≡ front
  pub after : after_first p xs ≡ back
  pub some : list_any p xs ≡ true

pub or_neither : (a b : Bool) → (a || b) ≡ false → (a ≡ false) × (b ≡ false)
or_neither true b e = cc
or_neither false b e = (refl, e)

pub record IsUncut (p : ℕ → Bool) (xs : List ℕ) : Type 0 where
  pub before : before_first p xs ≡ xs
  pub after : after_first p xs ≡ []
  pub none : list_any p xs ≡ false

shift : (i n : ℕ) → nat_lt i n ≡ nat_lt (1 + i) (suc n)
shift i n = grind (arith, nat_tests)

any_step : (b c : Bool) (i n : ℕ) → c ≡ nat_lt i n → (b || c) ≡ nat_lt (cond (not b) (1 + i) 0) (suc n)
any_step true c i n e = sym (lt-ltb 0 (suc n) (omega arith))
any_step false c i n e = e ∙ shift i n

-- some element passes where the first that passes is within the list
any_is : (p : ℕ → Bool) (xs : List ℕ) → list_any p xs ≡ nat_lt (position_or_len p xs) (length xs)
any_is p [] = refl
any_is p (x ∷ xs) = any_step (p x) (list_any p xs) (position_or_len p xs) (length xs) (any_is p xs)

-- the list up to a first element that passes, and from there on
at_first : (p : ℕ → Bool) (xs : List ℕ) (y : ℕ) (ys : List ℕ) → list_any p xs ≡ false → p y ≡ true → position_or_len p (xs ++ y ∷ ys) ≡ length xs
at_first p [] y ys none here = ap (λ b. cond (not b) (1 + position_or_len p ys) 0) here
at_first p (x ∷ xs) y ys none here =
    let each = or_neither (p x) (list_any p xs) none in
    ap (λ b. cond (not b) (1 + position_or_len p (xs ++ y ∷ ys)) 0) each.0 ∙ (let more = at_first p xs y ys each.1 here in omega arith)

pub first_cut : (p : ℕ → Bool) (xs : List ℕ) (y : ℕ) (ys : List ℕ) → list_any p xs ≡ false → p y ≡ true → IsCut p (xs ++ y ∷ ys) xs ys
first_cut p xs y ys none here =
    let at = at_first p xs y ys none here in
    let next : position_or_len p (xs ++ y ∷ ys) + 1 ≡ length xs + 1 = ap (λ n. n + 1) at in
    record {
      before = ap (λ n. take n (xs ++ y ∷ ys)) at ∙ take-append_seam xs (y ∷ ys);
      after = ap (λ n. drop n (xs ++ y ∷ ys)) next ∙ drop-append-add xs (y ∷ ys) 1;
      some = any_is p (xs ++ y ∷ ys) ∙ lt-ltb (position_or_len p (xs ++ y ∷ ys)) (length (xs ++ y ∷ ys)) (omega (arith, at, length-append xs (y ∷ ys)));
    }

pub uncut : (p : ℕ → Bool) (xs : List ℕ) → list_any p xs ≡ false → IsUncut p xs
uncut p xs none =
    let past : length xs ≤ position_or_len p xs = ltb-false (position_or_len p xs) (length xs) (sym (any_is p xs) ∙ none) in
    record {
      before = take_all (position_or_len p xs) xs past;
      after = drop_all (position_or_len p xs + 1) xs (omega arith);
      none = none;
    }

-- what stands on both sides of the first element that passes
pub around_first : (p : ℕ → Bool) (xs : List ℕ) → list_any p xs ≡ true → (y : ℕ) × (p y ≡ true) × (xs ≡ before_first p xs ++ (y ∷ after_first p xs))
around_first p xs some =
    let lt : position_or_len p xs < length xs = ltb-true (position_or_len p xs) (length xs) (sym (any_is p xs) ∙ some) in
    (get_or xs (position_or_len p xs) 0, passes_at_first p xs 0 lt, split_at_first p xs 0 lt)
