-- Whether an optional number is the one.
use Rattle.std.proofs.Common.{◌≡◌, ℕ, true, false, ap, sym, ◌∙◌, eqb-true, eq-eqb, Some, None, Option}
use Rattle.tree_ops.specs.Trees.{is_number}

pub number_is : (n : ℕ) (s : Option ℕ) → is_number n s ≡ true → s ≡ Some n
number_is n None h = cc
number_is n (Some m) h = ap (λ y. Some y) (sym (eqb-true n m h))

pub number_not : (n : ℕ) (s : Option ℕ) → is_number n s ≡ false → s ≡ Some n → ⊥
number_not n None h e = cc
number_not n (Some m) h e = true_false (sym (eq-eqb n m (some_is n m e)) ∙ h)
  where
    some_is : (a b : ℕ) → Some b ≡ Some a → a ≡ b
    some_is a b g = cc

    true_false : true ≡ false → ⊥
    true_false g = cc
