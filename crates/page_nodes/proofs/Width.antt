-- How many children a node has at most.
use Rattle.std.proofs.Common.{◌≡◌, ℕ, ◌≤◌, List, [], ◌∷◌, Bool, true, false, refl, sym, ap, eqb, eqb-true, eq-eqb, ne_eqb, ◌||◌, not, arith, length, ⊎_elim}
use Rattle.std.specs.List.{list_any, IsDistinct, AllByRecursion}
use Rattle.std.proofs.lemmas.Bool.{or_cases, and_parts, eqb-false}
use Rattle.std.proofs.lemmas.Map.Steps.{length-le_from_distinct_below}
use Rattle.page_nodes.specs.Entries.{Entry, at, listed, distinct, IsSound}
use Rattle.page_nodes.proofs.Lists.{or_none, or_right}
use Rattle.page_nodes.proofs.Walk.{child_in}

none_equal : (m : ℕ) (ms : List ℕ) → listed m ms ≡ false → AllByRecursion (λ y. eqb m y ≡ false) ms
none_equal m [] h = tt
none_equal m (y ∷ ms) h = let p = or_none (eqb y m) (listed m ms) h in (ne_eqb m y (λ e. eqb-false y m (p.0) (sym e)), none_equal m ms (p.1))

not_true : (b : Bool) → not b ≡ true → b ≡ false
not_true true h = cc
not_true false h = refl

all_distinct : (ms : List ℕ) → distinct ms ≡ true → IsDistinct eqb ms
unfolding IsDistinct
all_distinct [] h = tt
all_distinct (m ∷ ms) h = let p = and_parts (not (listed m ms)) (distinct ms) h in (none_equal m ms (not_true (listed m ms) (p.0)), all_distinct ms (p.1))

any_listed : (q : ℕ) (ms : List ℕ) → list_any (eqb q) ms ≡ true → listed q ms ≡ true
any_listed q [] h = cc
any_listed q (m ∷ ms) h = ⊎_elim
    (λ e. ap (λ b. b || listed q ms) (eq-eqb m q (sym (eqb-true q m e))))
    (λ e. or_right (eqb m q) (listed q ms) (any_listed q ms e))
    (or_cases (eqb q m) (list_any (eqb q) ms) h)

-- no more children than nodes
pub width_small : (k : List Entry) → IsSound k → (n : ℕ) → length (at k n).children ≤ 2147483648
width_small k s n = omega (arith, s.few, length-le_from_distinct_below (at k n).children (length k) (all_distinct (at k n).children (s.once n)) (λ q h. child_in k s n q (any_listed q (at k n).children h)))
