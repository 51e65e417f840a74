-- A tree becomes the root's, at the image.
use Rattle.std.proofs.Common.{◌≡◌, ◌≢◌, ℕ, List, [], ◌∷◌, Bool, true, false, refl, sym, ap, ◌∙◌, map, length, cond, eqb, eqb-true, eq-eqb, ◌||◌, ◌&&◌, not, Option, Some, None, ⊎_elim}
use Rattle.std.specs.Prelude.{is_some}
use Rattle.std.specs.List.{filter, range_with_len}
use Rattle.std.proofs.lemmas.Bool.{and_parts, cases_Bool, eqb-false}
use Rattle.code_units.specs.declared.owner.Owner.TheVariants as owner
use Rattle.plain_tree.specs.Trees.{beside, joined, marked}
use Rattle.tree_ops.specs.Trees.{has, subtree, without}
use Rattle.tree_ops.proofs.Tests.{cases, or_left, or_right}
use Rattle.page_nodes.specs.Entries.{Entry, at, listed, minus, tree, IsSound}
use Rattle.page_nodes.specs.Owners.{is_owner, same_owner, root_in}
use Rattle.page_nodes.specs.Trees.{pruned}
use Rattle.page_nodes.proofs.Put.{pruned_off}
use Rattle.page_nodes.proofs.Walk.{top_not_in}
use Rattle.page_tree.specs.Documents.{is_loose}
use Rattle.page_tree.specs.Roots.{IsRooted}
use Rattle.page_image.specs.Own.{is_own, own_number, trees_of, page_forest, own_forest}
use Rattle.page_image.proofs.Marked.{beside_marked, subtree_marked, without_marked}
use Rattle.page_image.proofs.Numbers.{tell, number_kept}
use Rattle.page_image.proofs.Shown.{kept_passes, forest_own, own_tree}
use Rattle.page_image.proofs.Steps.{marked_same, minus_filter, without_tops}

no_true : false ≡ true → ⊥
no_true e = cc

module _ (k : List Entry) (s : IsSound k) (roots : List (Option ℕ)) (rooted : IsRooted k roots) (w : ℕ) (is : is_owner (owner.Widget w) ≡ true) (root : root_in roots (owner.Widget w) ≡ None) (m : List Entry) (n : ℕ) (h : is_own k w n ≡ true) (top : (at k n).parent ≡ None)
    (made : length m ≡ length k) (owners : (x : ℕ) → (at m x).owner ≡ (at k x).owner)
    (parents : (x : ℕ) → is_own k w x ≡ true → x ≢ n → is_some (at m x).parent ≡ is_some (at k x).parent)
    (trees : (x : ℕ) → is_own k w x ≡ true → tree m x ≡ tree k x) where
  abbrev loose : List ℕ
  loose = filter (is_loose k None (owner.Widget w)) (range_with_len 0 (length k))

  loose_now : (x : ℕ) → is_loose m (Some n) (owner.Widget w) x ≡ cond (eqb x n) false (is_loose k None (owner.Widget w) x)
  loose_now x = ap (λ o. same_owner o (owner.Widget w) && not (is_some (at m x).parent) && not (eqb x n)) (owners x)
      ∙ cases (λ b. is_own k w x ≡ b → (b && not (is_some (at m x).parent) && not (eqb x n)) ≡ cond (eqb x n) false (b && not (is_some (at k x).parent) && true)) (is_own k w x)
      (λ e _. cases (λ b. eqb x n ≡ b → (not (is_some (at m x).parent) && not b) ≡ cond b false (not (is_some (at k x).parent) && true)) (eqb x n)
      (λ g _. no_and (not (is_some (at m x).parent)))
      (λ g _. ap (λ u. not u && true) (parents x e (eqb-false x n g))) refl)
      (λ e _. same_false (eqb x n)) refl
    where
      no_and : (b : Bool) → (b && false) ≡ false
      no_and true = refl
      no_and false = refl

      same_false : (c : Bool) → false ≡ cond c false false
      same_false true = refl
      same_false false = refl

  each : (ns : List ℕ) → ((c : ℕ) → listed c ns ≡ true → is_own k w c ≡ true) → trees_of m ns ≡ trees_of k ns
  each [] q = refl
  each (x ∷ ns) q = ap (λ t. beside t (trees_of m ns)) (trees x (q x (or_left (eqb x x) (listed x ns) (eq-eqb x x refl)))) ∙ ap (beside (tree k x)) (each ns (λ c l. q c (or_right (eqb x c) (listed c ns) l)))

  minus_listed : (c : ℕ) (ns : List ℕ) → listed c (minus n ns) ≡ true → (listed c ns ≡ true) × (c ≢ n)
  minus_listed c [] l = absurd (no_true l)
  minus_listed c (x ∷ ns) l = cases (λ b. eqb x n ≡ b → listed c (cond (not b) (x ∷ minus n ns) (minus n ns)) ≡ true → (listed c (x ∷ ns) ≡ true) × (c ≢ n)) (eqb x n)
      (λ e _ q. let r = minus_listed c ns q in (or_right (eqb x c) (listed c ns) (r.0), r.1))
      (λ e _ q. cases (λ b. eqb x c ≡ b → ((eqb x c || listed c ns) ≡ true) × (c ≢ n)) (eqb x c)
      (λ g _. (or_left (eqb x c) (listed c ns) g, λ z. no_true (sym e ∙ eq-eqb x n (eqb-true x c g ∙ z))))
      (λ g _. let r = minus_listed c ns (other (eqb x c) g q) in (or_right (eqb x c) (listed c ns) (r.0), r.1)) refl) refl l
    where
      other : (b : Bool) {a : Bool} → b ≡ false → (b || a) ≡ true → a ≡ true
      other true e q = absurd (no_true (sym e))
      other false e q = q

  -- the others have nothing of the tree in them
  rest : (ns : List ℕ) → ((c : ℕ) → listed c ns ≡ true → c ≢ n) → joined (map (λ x. pruned n (tree k x)) ns) ≡ trees_of k ns
  rest [] q = refl
  rest (x ∷ ns) q =
      ap (λ t. beside t (joined (map (λ y. pruned n (tree k y)) ns))) (pruned_off n (tree k x) (⊎_elim (λ e. absurd (top_not_in k s n x top (λ z. q x (or_left (eqb x x) (listed x ns) (eq-eqb x x refl)) (sym z)) e)) (λ e. e) (cases_Bool (has n (tree k x)))))
      ∙ ap (beside (tree k x)) (rest ns (λ c l. q c (or_right (eqb x c) (listed c ns) l)))

  loose_own : (c : ℕ) → listed c loose ≡ true → is_own k w c ≡ true
  loose_own c e = (and_parts _ _ ((and_parts _ _ (kept_passes (is_loose k None (owner.Widget w)) c 0 (length k) e)).0)).0

  page_rooted : page_forest m (Some n) w ≡ beside (subtree n (page_forest k None w)) (without n (page_forest k None w))
  page_rooted =
      ap (λ ns. trees_of m (n ∷ ns)) (ap (λ len. filter (is_loose m (Some n) (owner.Widget w)) (range_with_len 0 len)) made ∙ minus_filter (is_loose k None (owner.Widget w)) (is_loose m (Some n) (owner.Widget w)) n loose_now (range_with_len 0 (length k)))
      ∙ ap (λ t. beside t (trees_of m (minus n loose))) (trees n h)
      ∙ ap (beside (tree k n)) (each (minus n loose) (λ c l. loose_own c ((minus_listed c loose l).0)))
      ∙ ap (beside (tree k n)) (sym (without_tops k n loose ∙ rest (minus n loose) (λ c l. (minus_listed c loose l).1)))
      ∙ ap (λ t. beside t (without n (page_forest k None w))) (sym (own_tree k s roots rooted w None is root n h))

  pub forest_rooted : own_forest m (Some n) w ≡ beside (subtree (own_number k w n) (own_forest k None w)) (without (own_number k w n) (own_forest k None w))
  forest_rooted =
      marked_same (own_number m w) (own_number k w) (number_kept k m w made owners) (page_forest m (Some n) w)
      ∙ ap (marked (own_number k w)) page_rooted
      ∙ beside_marked (own_number k w) (subtree n (page_forest k None w)) (without n (page_forest k None w))
      ∙ ap (λ t. beside t (marked (own_number k w) (without n (page_forest k None w)))) (sym (subtree_marked (own_number k w) (is_own k w) (λ a b ha hb. tell k w a b ha hb) n h (page_forest k None w) (forest_own k s roots rooted w None is root)))
      ∙ ap (beside (subtree (own_number k w n) (own_forest k None w))) (sym (without_marked (own_number k w) (is_own k w) (λ a b ha hb. tell k w a b ha hb) n h (page_forest k None w) (forest_own k s roots rooted w None is root)))
