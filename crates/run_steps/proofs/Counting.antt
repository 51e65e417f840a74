-- The numbers of the command line.
use Rattle.std.proofs.Common.{◌≡◌, ℕ, ◌≤◌, ◌<◌, ◌^◌, List, Result, Ok, Err, true, false, sym, ap, ◌∙◌, arith}
use Rattle.std.specs.Str.{bytes_eq}
use Rattle.std.specs.Fmt.{decimal}
use Rattle.std.specs.Str.Parse.{ParsesUnsigned}
use Rattle.std.proofs.lemmas.Fmt.{parse-decimal}
use Rattle.std.proofs.lemmas.Slice.Eq.{bytes_eq-Decides}
use Rattle.run_steps.specs.Request.{IsCount}

same_bytes : (xs ys : List ℕ) → bytes_eq xs ys ≡ true → xs ≡ ys
same_bytes xs ys = (bytes_eq-Decides xs ys).0

bytes_same : (xs ys : List ℕ) → xs ≡ ys → bytes_eq xs ys ≡ true
bytes_same xs ys = (bytes_eq-Decides xs ys).1

pub count_of : (limit : ℕ) (word : List ℕ) (n : ℕ) → 1 ≤ n → n ≤ limit → bytes_eq word (decimal n) ≡ true → IsCount limit word n
count_of limit word n positive within spelled = record { positive = positive; within = within; spelled = same_bytes word (decimal n) spelled }

parsed_count : {E : Type 0} (limit n : ℕ) (word : List ℕ) (r : Result ℕ E) → limit < 2 ^ 32 → ParsesUnsigned 32 10 word r → IsCount limit word n → r ≡ Ok n
parsed_count limit n word r small parses count = parse-decimal 32 n word r (omega (arith, count.within, small)) (omega (arith, count.within, small)) count.spelled parses

some_ok : {E : Type 0} (n m : ℕ) (r : Result ℕ E) → r ≡ Ok n → r ≡ Ok m → n ≡ m
some_ok n m r a b = cc

-- a count is what was parsed, and is spelled so
module _ {E : Type 0} (limit m : ℕ) (word : List ℕ) (r : Result ℕ E) (small : limit < 2 ^ 32) (parses : ParsesUnsigned 32 10 word r) (count : IsCount limit word m) where
  count_is : (n : ℕ) → r ≡ Ok n → n ≡ m
  count_is n is = some_ok n m r is (parsed_count limit m word r small parses count)

  pub count_spelled : (n : ℕ) → r ≡ Ok n → bytes_eq word (decimal n) ≡ false → ⊥
  count_spelled n is other = let spelled = bytes_same word (decimal n) (count.spelled ∙ ap decimal (sym (count_is n is))) in cc

  pub count_positive : (n : ℕ) → r ≡ Ok n → n ≡ 0 → ⊥
  count_positive n is zero = omega (arith, count_is n is, count.positive, zero)

  pub count_within : (n : ℕ) → r ≡ Ok n → limit < n → ⊥
  count_within n is above = omega (arith, count_is n is, count.within, above)

  pub count_parsed : (e : E) → r ≡ Err e → ⊥
  count_parsed e is = let both : Err e ≡ Ok m = sym is ∙ parsed_count limit m word r small parses count in cc
