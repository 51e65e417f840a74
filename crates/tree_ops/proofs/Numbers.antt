-- The numbers of trees.
use Rattle.std.proofs.Common.{◌≡◌, ℕ, ◌+◌, List, [], ◌∷◌, ◌++◌, Bool, true, false, refl, ap, sym, ◌∙◌, eqb, eqb-true, eq-eqb, ne_eqb, zero, suc, arith, cond, ◌||◌, subst}
use Rattle.std.specs.List.{filter, list_any, range_with_len, IsDistinct, AllByRecursion}
use Rattle.std.proofs.lemmas.Bool.{eqb-false}
use Rattle.std.proofs.lemmas.List.Folds.{list_any-append}
use Rattle.std.proofs.lemmas.List.Elements.{filter-append}
use Rattle.plain_tree.specs.Trees.{Label, Trees, End, Node, unmarked, size}
use Rattle.tree_ops.specs.Trees.{numbers, has, relabelled, numbered, copied}
use Rattle.tree_ops.proofs.Tests.{cases, or_left, or_right}

-- a number is listed where it stands
pub has_listed : (n : ℕ) (ts : Trees ℕ) → has n ts ≡ list_any (λ m. eqb m n) (numbers ts)
has_listed n End = refl
has_listed n (Node m l ks ts) =
    ap (λ b. eqb m n || (b || has n ts)) (has_listed n ks)
    ∙ ap (λ b. eqb m n || (list_any (λ x. eqb x n) (numbers ks) || b)) (has_listed n ts)
    ∙ ap (λ b. eqb m n || b) (sym (list_any-append (λ x. eqb x n) (numbers ks) (numbers ts)))

pub relabelled_numbers : (n : ℕ) (v : Label) (ts : Trees ℕ) → numbers (relabelled n v ts) ≡ numbers ts
relabelled_numbers n v End = refl
relabelled_numbers n v (Node m l ks ts) = ap (λ xs. m ∷ (xs ++ numbers (relabelled n v ts))) (relabelled_numbers n v ks) ∙ ap (λ xs. m ∷ (numbers ks ++ xs)) (relabelled_numbers n v ts)

pub copied_numbers : (ts : Trees ℕ) → numbers (copied ts) ≡ numbers ts
copied_numbers End = refl
copied_numbers (Node m l ks ts) = ap (λ xs. m ∷ (xs ++ numbers (copied ts))) (copied_numbers ks) ∙ ap (λ xs. m ∷ (numbers ks ++ xs)) (copied_numbers ts)

range_both : (n a m b c : ℕ) → n + a ≡ m → a + b ≡ c → range_with_len n a ++ range_with_len m b ≡ range_with_len n c
range_both n zero m b c e f = ap (λ x. range_with_len x b) (sym e ∙ omega arith) ∙ ap (range_with_len n) (omega (arith, f))
range_both n (suc a) m b zero e f = absurd (omega (arith, f))
range_both n (suc a) m b (suc c) e f = ap (λ xs. n ∷ xs) (range_both (n + 1) a m b c (omega (arith, e)) (omega (arith, f)))

more : (n a : ℕ) → n ∷ range_with_len (n + 1) a ≡ range_with_len n (a + 1)
more n a = let e : suc a ≡ a + 1 = omega arith in ap (range_with_len n) e

module _ {M : Type 0} where
  pub numbered_shape : (n : ℕ) (ts : Trees M) → unmarked (numbered n ts) ≡ unmarked ts
  numbered_shape n End = refl
  numbered_shape n (Node m l ks ts) = ap (λ t. Node tt l t (unmarked (numbered (n + 1 + size ks) ts))) (numbered_shape (n + 1) ks) ∙ ap (Node tt l (unmarked ks)) (numbered_shape (n + 1 + size ks) ts)

  pub numbered_order : (n : ℕ) (ts : Trees M) → numbers (numbered n ts) ≡ range_with_len n (size ts)
  numbered_order n End = refl
  numbered_order n (Node m l ks ts) =
      ap (λ xs. n ∷ (xs ++ numbers (numbered (n + 1 + size ks) ts))) (numbered_order (n + 1) ks)
      ∙ ap (λ xs. n ∷ (range_with_len (n + 1) (size ks) ++ xs)) (numbered_order (n + 1 + size ks) ts)
      ∙ ap (λ xs. n ∷ xs) (range_both (n + 1) (size ks) (n + 1 + size ks) (size ts) (size ks + size ts) refl refl) ∙ more n (size ks + size ts)

-- ## Numbers that stand once

abbrev pub Apart : Trees ℕ → Trees ℕ → Type 0
Apart ks ts = (x : ℕ) → has x ks ≡ true → has x ts ≡ false

abbrev pub Once : Trees ℕ → Type 0
Once End = Unit {0}
Once (Node m l ks ts) = (has m ks ≡ false) × (has m ts ≡ false) × Apart ks ts × Once ks × Once ts

none_of : (n : ℕ) (xs : List ℕ) → AllByRecursion (λ y. eqb n y ≡ false) xs → list_any (λ m. eqb m n) xs ≡ false
none_of n [] h = refl
none_of n (x ∷ xs) h = ap (λ b. b || list_any (λ m. eqb m n) xs) (ne_eqb x n (λ e. eqb-false n x (h.0) (sym e))) ∙ none_of n xs (h.1)

all_parts : (P : ℕ → Type 0) (xs ys : List ℕ) → AllByRecursion P (xs ++ ys) → AllByRecursion P xs × AllByRecursion P ys
all_parts P [] ys h = (tt, h)
all_parts P (x ∷ xs) ys h = let r = all_parts P xs ys (h.1) in ((h.0, r.0), r.1)

split : (xs ys : List ℕ) → IsDistinct eqb (xs ++ ys) → IsDistinct eqb xs × IsDistinct eqb ys × ((n : ℕ) → list_any (λ m. eqb m n) xs ≡ true → list_any (λ m. eqb m n) ys ≡ false)
unfolding IsDistinct
split [] ys h = (tt, h, λ n e. cc)
split (x ∷ xs) ys h =
    let all = all_parts (λ y. eqb x y ≡ false) xs ys (h.0) in
    let r = split xs ys (h.1) in
    ((all.0, r.0), r.1, λ n. cases (λ b. (b || list_any (λ m. eqb m n) xs) ≡ true → list_any (λ m. eqb m n) ys ≡ false) (eqb x n) (λ e _. subst (λ y. list_any (λ m. eqb m y) ys ≡ false) (eqb-true x n e) (none_of x ys (all.1))) (λ _. r.2 n))

pub once : (ts : Trees ℕ) → IsDistinct eqb (numbers ts) → Once ts
unfolding IsDistinct
once End h = tt
once (Node m l ks ts) h =
    let all = all_parts (λ y. eqb m y ≡ false) (numbers ks) (numbers ts) (h.0) in
    let r = split (numbers ks) (numbers ts) (h.1) in
    (has_listed m ks ∙ none_of m (numbers ks) (all.0), has_listed m ts ∙ none_of m (numbers ts) (all.1), (λ x e. has_listed x ts ∙ r.2 x (sym (has_listed x ks) ∙ e)), once ks (r.0), once ts (r.1))

-- ## What a filter leaves of numbers

pub all_left : (p : ℕ → Bool) (ts : Trees ℕ) → ((x : ℕ) → has x ts ≡ true → p x ≡ true) → filter p (numbers ts) ≡ numbers ts
all_left p End h = refl
all_left p (Node m l ks ts) h =
    ap (λ b. cond b (m ∷ filter p (numbers ks ++ numbers ts)) (filter p (numbers ks ++ numbers ts))) (h m (or_left (eqb m m) (has m ks || has m ts) (eq-eqb m m refl)))
    ∙ ap (λ xs. m ∷ xs) (filter-append p (numbers ks) (numbers ts) ∙ ap (λ xs. xs ++ filter p (numbers ts)) (all_left p ks (λ x e. h x (or_right (eqb m x) (has x ks || has x ts) (or_left (has x ks) (has x ts) e)))) ∙ ap (λ xs. numbers ks ++ xs) (all_left p ts (λ x e. h x (or_right (eqb m x) (has x ks || has x ts) (or_right (has x ks) (has x ts) e)))))

pub none_left : (p : ℕ → Bool) (ts : Trees ℕ) → ((x : ℕ) → has x ts ≡ true → p x ≡ false) → filter p (numbers ts) ≡ []
none_left p End h = refl
none_left p (Node m l ks ts) h =
    ap (λ b. cond b (m ∷ filter p (numbers ks ++ numbers ts)) (filter p (numbers ks ++ numbers ts))) (h m (or_left (eqb m m) (has m ks || has m ts) (eq-eqb m m refl)))
    ∙ filter-append p (numbers ks) (numbers ts)
    ∙ ap (λ xs. xs ++ filter p (numbers ts)) (none_left p ks (λ x e. h x (or_right (eqb m x) (has x ks || has x ts) (or_left (has x ks) (has x ts) e))))
    ∙ none_left p ts (λ x e. h x (or_right (eqb m x) (has x ks || has x ts) (or_right (has x ks) (has x ts) e)))
