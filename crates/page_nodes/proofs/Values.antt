-- Attributes by their names.
use Rattle.std.proofs.Common.{◌≡◌, ℕ, zero, suc, ◌<◌, ◌≤◌, List, [], ◌∷◌, ◌++◌, Bool, true, false, refl, sym, ap, ◌∙◌, subst, arith, cond, not, length, set, get_or}
use Rattle.std.specs.List.Retain.{IsFiltered}
use Rattle.std.specs.Str.{bytes_eq}
use Rattle.std.proofs.lemmas.Fn.{filter_same}
use Rattle.plain_tree.specs.Trees.{Attribute}
use Rattle.tree_ops.specs.Labels.{with_value, without_value}
use Rattle.page_nodes.specs.Contents.{IsNamed}

-- where the name stands, the value is written
pub value_written : (n v : List ℕ) (ats : List Attribute) (i : ℕ) (a : Attribute) → i < length ats → a ≡ get_or ats i a → ((j : ℕ) → j < i → IsNamed n ats j false) → IsNamed n ats i true → set ats i (a.0, v) ≡ with_value n v ats
value_written n v [] i a lt e first found = absurd (omega (arith, lt))
value_written n v (x ∷ ats) zero a lt e first found = ap (λ (y : Attribute). (y.0, v) ∷ ats) e ∙ sym (ap (λ b. cond b ((x.0, v) ∷ ats) (x ∷ with_value n v ats)) found)
value_written n v (x ∷ ats) (suc i) a lt e first found =
    ap (λ l. x ∷ l) (value_written n v ats i a (omega (arith, lt)) e (λ j lj. first (suc j) (omega (arith, lj))) found)
    ∙ sym (ap (λ b. cond b ((x.0, v) ∷ ats) (x ∷ with_value n v ats)) (first 0 (omega arith)))

-- where it does not stand, it comes last
pub value_last : (n v : List ℕ) (ats : List Attribute) → ((j : ℕ) → j < length ats → IsNamed n ats j false) → ats ++ (n, v) ∷ [] ≡ with_value n v ats
value_last n v [] first = refl
value_last n v (x ∷ ats) first =
    ap (λ l. x ∷ l) (value_last n v ats (λ j lj. first (suc j) (omega (arith, lj))))
    ∙ sym (ap (λ b. cond b ((x.0, v) ∷ ats) (x ∷ with_value n v ats)) (first 0 (omega arith)))

-- the same where a copy of the list was searched
pub value_here : (n v : List ℕ) (xs ys : List Attribute) (i : ℕ) (a : Attribute) → ys ≡ xs → i < length xs → a ≡ get_or xs i a → ((j : ℕ) → j < i → IsNamed n ys j false) → (i < length ys → IsNamed n ys i true) → set xs i (a.0, v) ≡ with_value n v xs
value_here n v xs ys i a e lt ea = subst (λ zs. ((j : ℕ) → j < i → IsNamed n zs j false) → (i < length zs → IsNamed n zs i true) → set xs i (a.0, v) ≡ with_value n v xs) (sym e) (λ first found. value_written n v xs i a lt ea first (found lt))

pub value_added : (n v : List ℕ) (xs ys : List Attribute) (i : ℕ) → ys ≡ xs → length xs ≤ i → ((j : ℕ) → j < i → IsNamed n ys j false) → xs ++ (n, v) ∷ [] ≡ with_value n v xs
value_added n v xs ys i e le = subst (λ zs. ((j : ℕ) → j < i → IsNamed n zs j false) → xs ++ (n, v) ∷ [] ≡ with_value n v xs) (sym e) (λ first. value_last n v xs (λ j lj. first j (omega (arith, lj, le))))

pub without_retained : {F : Type 0} (R : F → Attribute → Bool → F → Type 0) (n : List ℕ) (f : F) → ((x : Attribute) (b : Bool) (g : F) → R f x b g → (b ≡ not (bytes_eq (x.0) n)) × (g ≡ f)) → (xs ys : List Attribute) → IsFiltered R f xs ys → ys ≡ without_value n xs
without_retained R n f says xs ys h = filter_same R (λ a. not (bytes_eq (a.0) n)) f says xs ys h
