-- What is counted of nodes, and of their measures.
use Rattle.std.proofs.Common.{◌≡◌, ℕ, zero, suc, ◌+◌, ◌*◌, ◌<◌, ◌≤◌, List, [], ◌∷◌, Bool, true, false, refl, ap, ◌∙◌, map, length, arith, cond}
use Rattle.std.specs.Prelude.{min, ◌-◌, ◌^◌, nat_lt}
use Rattle.std.specs.List.{count_by, fold}
use Rattle.std.proofs.lemmas.Bool.Decides.{nat_tests}
use Rattle.std.proofs.lemmas.List.Sums.{count_by-le-length}
use Rattle.native_image.specs.Handed.{numbers}
use Rattle.native_common.specs.Numbers.{counted}

-- over numbers as over nodes
folded : (p : ℕ → Bool) (f : ℕ → ℕ) (xs : List ℕ) (a : ℕ) → fold (λ k x. k + cond (p (f x)) 1 0) a xs ≡ fold (λ k y. k + cond (p y) 1 0) a (map f xs)
folded p f [] a = refl
folded p f (x ∷ xs) a = folded p f xs (a + cond (p (f x)) 1 0)

pub counted_over : (p : ℕ → Bool) (f : ℕ → ℕ) (xs : List ℕ) → count_by (λ x. p (f x)) xs ≡ count_by p (map f xs)
counted_over p f xs = folded p f xs 0

-- so many times something that is counted
pub times : (n k m t c : ℕ) → k ≡ n → m ≡ counted t → c ≡ min (k * m) (2 ^ 64 - 1) → c ≡ counted (n * t)
times n k m t c e f g = g ∙ ap (λ i. min (i * m) (2 ^ 64 - 1)) e ∙ by n
  where
    many : (y z : ℕ) (b : Bool) → nat_lt (2 ^ 64 - 1) t ≡ b → (m ≡ t → y ≡ z) → min (m + y) (2 ^ 64 - 1) ≡ min (t + z) (2 ^ 64 - 1)
    many y z true h same = let over : 2 ^ 64 - 1 < t = grind (arith, nat_tests, h) in omega (arith, f, over)
    many y z false h same = let is : m ≡ t = grind (arith, nat_tests, h, f) in omega (arith, is, same is)

    by : (n : ℕ) → min (n * m) (2 ^ 64 - 1) ≡ counted (n * t)
    by zero = omega arith
    by (suc n) =
        let a : suc n * m ≡ m + n * m = omega arith in
        let b : suc n * t ≡ t + n * t = omega arith in
        ap (λ i. min i (2 ^ 64 - 1)) a ∙ many (n * m) (n * t) (nat_lt (2 ^ 64 - 1) t) refl (ap (λ i. n * i)) ∙ ap (λ i. min i (2 ^ 64 - 1)) (let c : t + n * t ≡ suc n * t = omega arith in c)

-- few nodes, of which some are counted
pub few_new : (p : ℕ → Bool) (ns nodes : List ℕ) (a : ℕ) → length ns ≡ length nodes → length nodes ≤ 16384 → a ≡ count_by p ns → a ≡ counted (count_by p ns)
few_new p ns nodes a e few is = omega (arith, e, few, is, count_by-le-length p ns)
