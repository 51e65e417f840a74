-- A node is taken out with all below it.
use Rattle.std.proofs.Common.{◌≡◌, ℕ, ◌∷◌, ◌++◌, Bool, true, false, not, refl, ap, sym, ◌∙◌, eqb, eqb-true, eq-eqb, ne_eqb, cond, ⊎_elim, ◌||◌, Option, Some, None, subst}
use Rattle.std.specs.List.{filter}
use Rattle.std.specs.Option.{option_or, unwrap_or}
use Rattle.std.proofs.lemmas.List.Elements.{filter-append}
use Rattle.std.proofs.lemmas.Bool.{cases_Bool}
use Rattle.plain_tree.specs.Trees.{Label, Trees, End, Node}
use Rattle.tree_ops.specs.Trees.{numbers, has, tree_of, subtree, without}
use Rattle.tree_ops.proofs.Tests.{cases, or_none, or_left, or_right, not_both}
use Rattle.tree_ops.proofs.Absent.{without_off}
use Rattle.tree_ops.proofs.Numbers.{Apart, Once, all_left, none_left}

-- where it is not there there is no tree of it
no_tree : (n : ℕ) (ts : Trees ℕ) → has n ts ≡ false → tree_of n ts ≡ None
no_tree n End h = refl
no_tree n (Node m l ks ts) h =
    let p = or_none (eqb m n) (has n ks || has n ts) h in
    let q = or_none (has n ks) (has n ts) (p.1) in
    ap (λ b. cond b (Some (Node m l ks End)) (option_or (tree_of n ks) (tree_of n ts))) (p.0)
    ∙ ap (λ o. option_or o (tree_of n ts)) (no_tree n ks (q.0))
    ∙ no_tree n ts (q.1)

-- the first of two trees, or else the second
either_tree : (P : Trees ℕ → Type 0) (o u : Option (Trees ℕ)) → P (unwrap_or o End) → P (unwrap_or u End) → P (unwrap_or (option_or o u) End)
either_tree P None u a b = b
either_tree P (Some t) u a b = a

-- what is not there is not in the tree of a node
not_in_tree : (n x : ℕ) (ts : Trees ℕ) → has x ts ≡ false → has x (subtree n ts) ≡ false
not_in_tree n x End h = refl
not_in_tree n x (Node m l ks ts) h =
    let p = or_none (eqb m x) (has x ks || has x ts) h in
    let q = or_none (has x ks) (has x ts) (p.1) in
    cases (λ b. has x (unwrap_or (cond b (Some (Node m l ks End)) (option_or (tree_of n ks) (tree_of n ts))) End) ≡ false) (eqb m n)
    (λ _. ap (λ b. b || (has x ks || false)) (p.0) ∙ ap (λ b. b || false) (q.0))
    (λ _. either_tree (λ t. has x t ≡ false) (tree_of n ks) (tree_of n ts) (not_in_tree n x ks (q.0)) (not_in_tree n x ts (q.1)))

true_false : true ≡ false → ⊥
true_false e = cc

-- what is in one of two lists of trees that are apart is not in the other
apart_back : (ks ts : Trees ℕ) → Apart ks ts → (x : ℕ) → has x ts ≡ true → has x ks ≡ false
apart_back ks ts a x h = not_both (has x ks) (λ e. absurd (true_false (sym h ∙ a x e)))

abbrev left : ℕ → Trees ℕ → ℕ → Bool
left n ts x = not (has x (subtree n ts))

-- the parts of a node that is not the one
parts : (q : ℕ → Bool) (m : ℕ) (ks ts us vs : Trees ℕ) → q m ≡ true → numbers us ≡ filter q (numbers ks) → numbers vs ≡ filter q (numbers ts) → m ∷ (numbers us ++ numbers vs) ≡ filter q (m ∷ (numbers ks ++ numbers ts))
parts q m ks ts us vs h a b =
    ap (λ xs. m ∷ (xs ++ numbers vs)) a
    ∙ ap (λ xs. m ∷ (filter q (numbers ks) ++ xs)) b
    ∙ ap (λ xs. m ∷ xs) (sym (filter-append q (numbers ks) (numbers ts)))
    ∙ ap (λ c. cond c (m ∷ filter q (numbers ks ++ numbers ts)) (filter q (numbers ks ++ numbers ts))) (sym h)

no_other : (o : Option (Trees ℕ)) → option_or o None ≡ o
no_other None = refl
no_other (Some t) = refl

module _ (n m : ℕ) (ks ts : Trees ℕ) (l : Label) (h : Once (Node m l ks ts)) where
  -- the node itself and what is below it go
  taken : m ≡ n → numbers (without n ts) ≡ filter (λ x. not (has x (Node m l ks End))) (m ∷ (numbers ks ++ numbers ts))
  taken e =
      let gone : (x : ℕ) → has x (Node m l ks End) ≡ true → not (has x (Node m l ks End)) ≡ false = λ x e. ap not e in
      let below : (x : ℕ) → has x ks ≡ true → has x (Node m l ks End) ≡ true = λ x e. or_right (eqb m x) (has x ks || false) (or_left (has x ks) false e) in
      let away : (x : ℕ) → has x ts ≡ true → not (has x (Node m l ks End)) ≡ true = λ x e.
      ap not (ap (λ b. b || (has x ks || false)) (ne_eqb m x (λ same. absurd (true_false (sym e ∙ subst (λ y. has y ts ≡ false) same (h.1))))) ∙ ap (λ b. b || false) (apart_back ks ts (h.2) x e)) in
      let first : not (has m (Node m l ks End)) ≡ false = ap (λ b. not (b || (has m ks || false))) (eq-eqb m m refl) in
      let p : ℕ → Bool = λ x. not (has x (Node m l ks End)) in
      ap numbers (without_off n ts (subst (λ y. has y ts ≡ false) e (h.1)))
      ∙ sym (all_left p ts away)
      ∙ sym (ap (λ xs. xs ++ filter p (numbers ts)) (none_left p ks (λ x e. gone x (below x e))))
      ∙ sym (filter-append p (numbers ks) (numbers ts))
      ∙ sym (ap (λ b. cond b (m ∷ filter p (numbers ks ++ numbers ts)) (filter p (numbers ks ++ numbers ts))) first)

  -- the node stands elsewhere
  stays : numbers (without n ks) ≡ filter (left n ks) (numbers ks) → numbers (without n ts) ≡ filter (left n ts) (numbers ts) → numbers (Node m l (without n ks) (without n ts)) ≡ filter (λ x. not (has x (unwrap_or (option_or (tree_of n ks) (tree_of n ts)) End))) (m ∷ (numbers ks ++ numbers ts))
  stays hk hs = ⊎_elim in_children beside (cases_Bool (has n ks))
    where
      in_children : has n ks ≡ true → numbers (Node m l (without n ks) (without n ts)) ≡ filter (λ x. not (has x (unwrap_or (option_or (tree_of n ks) (tree_of n ts)) End))) (m ∷ (numbers ks ++ numbers ts))
      in_children e =
          parts (left n ks) m ks ts (without n ks) (without n ts) (ap not (not_in_tree n m ks (h.0))) hk (ap numbers (without_off n ts (h.2 n e)) ∙ sym (all_left (left n ks) ts (λ x i. ap not (not_in_tree n x ks (apart_back ks ts (h.2) x i)))))
          ∙ ap (λ o. filter (λ x. not (has x (unwrap_or o End))) (m ∷ (numbers ks ++ numbers ts))) (sym (no_other (tree_of n ks)) ∙ ap (option_or (tree_of n ks)) (sym (no_tree n ts (h.2 n e))))

      beside : has n ks ≡ false → numbers (Node m l (without n ks) (without n ts)) ≡ filter (λ x. not (has x (unwrap_or (option_or (tree_of n ks) (tree_of n ts)) End))) (m ∷ (numbers ks ++ numbers ts))
      beside e =
          parts (left n ts) m ks ts (without n ks) (without n ts) (ap not (not_in_tree n m ts (h.1))) (ap numbers (without_off n ks e) ∙ sym (all_left (left n ts) ks (λ x i. ap not (not_in_tree n x ts (h.2 x i))))) hs
          ∙ ap (λ o. filter (λ x. not (has x (unwrap_or (option_or o (tree_of n ts)) End))) (m ∷ (numbers ks ++ numbers ts))) (sym (no_tree n ks e))

pub without_left : (n : ℕ) (ts : Trees ℕ) → Once ts → numbers (without n ts) ≡ filter (left n ts) (numbers ts)
without_left n End h = refl
without_left n (Node m l ks ts) h =
    cases (λ b. eqb m n ≡ b → numbers (cond b (without n ts) (Node m l (without n ks) (without n ts))) ≡ filter (λ x. not (has x (unwrap_or (cond b (Some (Node m l ks End)) (option_or (tree_of n ks) (tree_of n ts))) End))) (m ∷ (numbers ks ++ numbers ts))) (eqb m n)
    (λ _ e. taken n m ks ts l h (eqb-true m n e))
    (λ _ _. stays n m ks ts l h (without_left n ks (h.3)) (without_left n ts (h.4))) refl
