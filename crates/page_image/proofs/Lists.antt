-- Numbers in lists and in trees.
use Rattle.std.proofs.Common.{◌≡◌, ℕ, List, [], ◌∷◌, ◌++◌, true, false, refl, sym, ap, ◌∙◌, eqb, eqb-true, eq-eqb, ◌||◌, ⊎_elim}
use Rattle.std.proofs.lemmas.Bool.{cases_Bool}
use Rattle.plain_tree.specs.Trees.{Trees, End, Node}
use Rattle.tree_ops.specs.Trees.{numbers, has}
use Rattle.page_nodes.specs.Entries.{listed}
use Rattle.query_grammar.specs.Finds.{has_number}
use Rattle.query_grammar.proofs.Numbers.{has_both}

no_true : false ≡ true → ⊥
no_true e = cc

turned : (a b : ℕ) → eqb a b ≡ eqb b a
turned a b = ⊎_elim
    (λ h. h ∙ sym (eq-eqb b a (sym (eqb-true a b h))))
    (λ h. ⊎_elim (λ g. absurd (no_true (sym h ∙ eq-eqb a b (sym (eqb-true b a g))))) (λ g. h ∙ sym g) (cases_Bool (eqb b a)))
    (cases_Bool (eqb a b))

pub has_listed : (n : ℕ) (ns : List ℕ) → has_number ns n ≡ listed n ns
has_listed n [] = refl
has_listed n (m ∷ ns) = ap (λ b. b || has_number ns n) (turned n m) ∙ ap (λ b. eqb m n || b) (has_listed n ns)

pub has_numbers : (ts : Trees ℕ) (x : ℕ) → has_number (numbers ts) x ≡ has x ts
has_numbers End x = refl
has_numbers (Node m l ks ts) x =
    ap (λ b. b || has_number (numbers ks ++ numbers ts) x) (turned x m)
    ∙ ap (λ b. eqb m x || b) (has_both x (numbers ks) (numbers ts) ∙ ap (λ b. b || has_number (numbers ts) x) (has_numbers ks x) ∙ ap (λ b. has x ks || b) (has_numbers ts x))
