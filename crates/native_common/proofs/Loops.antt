-- Loops over lists, and sums of lengths.
use Rattle.std.proofs.Common.{◌≡◌, ℕ, ◌+◌, ◌<◌, ◌≤◌, true, false, List, ◌∷◌, length, drop, get_or, sym, ap, ◌∙◌, arith}
use Rattle.std.specs.Prelude.{nat_lt}
use Rattle.std.proofs.lemmas.Bool.Decides.{nat_tests}
use Rattle.std.proofs.lemmas.List.{at_drop_more}
use Rattle.native_common.specs.Numbers.{counted}

-- a function of what is left of a list, by the element that a loop is at
pub stepped : {X Y : Type 0} (F : List X → Y) (xs : List X) (i : ℕ) (v : X) → i < length xs → v ≡ get_or xs i v → F (drop i xs) ≡ F (v ∷ drop (i + 1) xs)
stepped F xs i v lt is = at_drop_more F xs i v lt ∙ ap (λ x. F (x ∷ drop (i + 1) xs)) (sym is)

-- one more length is counted: of n so far with u, of which r was left, and now r1
pub counted_more : (n u of s r r1 t : ℕ) → u ≡ counted of → s ≡ counted (n + u) → r ≡ of + r1 → counted (n + r) ≡ counted t → counted (s + r1) ≡ counted t
counted_more n u of s r r1 t a b c d = omega (arith, a, b, c, d)

-- all are counted
pub counted_all : (n r t : ℕ) → n ≡ counted n → r ≡ 0 → counted (n + r) ≡ counted t → n ≡ counted t
counted_all n r t a b c = omega (arith, a, b, c)

pub over_yes : (n m : ℕ) → n < m → nat_lt n m ≡ true
over_yes n m h = grind (arith, nat_tests, h)

pub over_no : (n m : ℕ) → m ≤ n → nat_lt n m ≡ false
over_no n m h = grind (arith, nat_tests, h)
