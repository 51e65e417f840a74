-- Numbers in order.
use Rattle.std.proofs.Common.{◌≡◌, ℕ, ◌+◌, ◌<◌, ◌≤◌, List, [], ◌∷◌, Bool, true, false, ◌||◌, refl, sym, ap, ◌∙◌, arith, eqb}
use Rattle.std.specs.declared.cmp.Ordering.{Ordering}
use Rattle.std.specs.declared.cmp.Ordering.TheVariants.{Less, Equal, Greater}
use Rattle.std.specs.Ordering.{nat_cmp}
use Rattle.std.specs.List.{AllByRecursion}
use Rattle.std.specs.List.Sorted.{IsStrictlySortedBy}
use Rattle.std.specs.BTreeSet.{insert_key}
use Rattle.std.proofs.lemmas.Bool.Decides.{nat_tests}
use Rattle.query_grammar.specs.Finds.{has_number}
use Rattle.query_walks.specs.Walks.{RiseFrom}

less_is : (a b : ℕ) → nat_cmp a b ≡ Less → a < b
less_is a b h = grind (arith, nat_tests)

equal_is : (a b : ℕ) → nat_cmp a b ≡ Equal → a ≡ b
equal_is a b h = grind (arith, nat_tests)

all_later : (a b : ℕ) (xs : List ℕ) → a + 1 ≤ b → AllByRecursion (λ y. nat_cmp a y ≡ Less) xs → AllByRecursion (λ y. a + 1 ≤ y) xs
all_later a b [] le h = tt
all_later a b (x ∷ xs) le h = (omega (arith, less_is a x (h.0)), all_later a b xs le (h.1))

rises : (a : ℕ) (xs : List ℕ) → AllByRecursion (λ y. a ≤ y) xs → IsStrictlySortedBy nat_cmp xs → RiseFrom a xs
unfolding IsStrictlySortedBy
rises a [] h s = tt
rises a (x ∷ xs) h s = (h.0, rises (x + 1) xs (all_later x (x + 1) xs (omega arith) (s.0)) (s.1))

all_from : (xs : List ℕ) → AllByRecursion (λ y. 0 ≤ y) xs
all_from [] = tt
all_from (x ∷ xs) = (omega arith, all_from xs)

pub rise : (xs : List ℕ) → IsStrictlySortedBy nat_cmp xs → RiseFrom 0 xs
rise xs s = rises 0 xs (all_from xs) s

swapped : (a b c : Bool) → (a || (b || c)) ≡ (b || (a || c))
swapped true true c = refl
swapped true false c = refl
swapped false true c = refl
swapped false false c = refl

twice : (a b : Bool) → (a || b) ≡ (a || (a || b))
twice true b = refl
twice false b = refl

pub inserted : (ks : List ℕ) (k n : ℕ) → has_number (insert_key nat_cmp ks k) n ≡ (eqb n k || has_number ks n)
inserted [] k n = refl
inserted (x ∷ ks) k n = by_order (nat_cmp k x) refl (inserted ks k n)
  where
    by_order : (o : Ordering) → nat_cmp k x ≡ o → has_number (insert_key nat_cmp ks k) n ≡ (eqb n k || has_number ks n) → has_number (insert_key nat_cmp (x ∷ ks) k) n ≡ (eqb n k || has_number (x ∷ ks) n)
    by_order Less e more = rw e refl
    by_order Equal e more = rw e (ap (λ y. eqb n y || has_number ks n) (sym (equal_is k x e)) ∙ twice (eqb n k) (has_number ks n) ∙ ap (λ y. eqb n k || (eqb n y || has_number ks n)) (equal_is k x e))
    by_order Greater e more = rw e (ap (λ b. eqb n x || b) more ∙ swapped (eqb n x) (eqb n k) (has_number ks n))
