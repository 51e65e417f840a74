-- What is another's stays.
use Rattle.std.proofs.Common.{◌≡◌, ℕ, List, [], ◌∷◌, ◌++◌, Bool, true, false, refl, sym, ap, ◌∙◌, length, eqb, eq-eqb, ◌&&◌, not, Option}
use Rattle.std.specs.Prelude.{is_some, option_to_list}
use Rattle.std.specs.List.{filter, range_with_len}
use Rattle.code_units.specs.declared.owner.Owner.TheVariants as owner
use Rattle.plain_tree.specs.Trees.{beside, marked}
use Rattle.tree_ops.specs.Trees.{is_number}
use Rattle.tree_ops.proofs.Tests.{cases, or_left, or_right}
use Rattle.page_nodes.specs.Entries.{Entry, at, listed, tree, IsSound}
use Rattle.page_nodes.specs.Owners.{is_owner, same_owner, root_in}
use Rattle.page_tree.specs.Documents as page
use Rattle.page_tree.specs.Documents.{is_loose}
use Rattle.page_tree.specs.Roots.{IsRooted}
use Rattle.page_image.specs.Own.{is_own, own_number, trees_of, page_forest, own_forest}
use Rattle.page_image.proofs.Numbers.{number_kept}
use Rattle.page_image.proofs.Shown.{top_own}
use Rattle.page_image.proofs.Steps.{marked_same, filter_same}

module _ (k : List Entry) (s : IsSound k) (roots : List (Option ℕ)) (rooted : IsRooted k roots) (w : ℕ) (r : Option ℕ) (is : is_owner (owner.Widget w) ≡ true) (root : root_in roots (owner.Widget w) ≡ r) where
  pub forest_stays : (m : List Entry) → length m ≡ length k → ((x : ℕ) → (at m x).owner ≡ (at k x).owner) → ((x : ℕ) → is_own k w x ≡ true → is_number x r ≡ false → is_some (at m x).parent ≡ is_some (at k x).parent) → ((x : ℕ) → is_own k w x ≡ true → tree m x ≡ tree k x) → own_forest m r w ≡ own_forest k r w
  forest_stays m made owners parents trees =
      marked_same (own_number m w) (own_number k w) (number_kept k m w made owners) (page_forest m r w)
      ∙ ap (marked (own_number k w)) (ap (λ ns. trees_of m (option_to_list r ++ ns)) (ap (λ len. filter (is_loose m r (owner.Widget w)) (range_with_len 0 len)) made ∙ filter_same (is_loose k r (owner.Widget w)) (is_loose m r (owner.Widget w)) same (range_with_len 0 (length k)))
      ∙ each (page.tops k r (owner.Widget w)) (top_own k s roots rooted w r is root))
    where
      no_and : (b : Bool) → (b && false) ≡ false
      no_and true = refl
      no_and false = refl

      same : (x : ℕ) → is_loose m r (owner.Widget w) x ≡ is_loose k r (owner.Widget w) x
      same x =
          ap (λ o. same_owner o (owner.Widget w) && not (is_some (at m x).parent) && not (is_number x r)) (owners x)
          ∙ cases (λ b. is_own k w x ≡ b → (b && not (is_some (at m x).parent) && not (is_number x r)) ≡ (b && not (is_some (at k x).parent) && not (is_number x r))) (is_own k w x)
          (λ e _. cases (λ b. is_number x r ≡ b → (not (is_some (at m x).parent) && not b) ≡ (not (is_some (at k x).parent) && not b)) (is_number x r)
          (λ _ _. no_and (not (is_some (at m x).parent)) ∙ sym (no_and (not (is_some (at k x).parent))))
          (λ g _. ap (λ u. not u && true) (parents x e g)) refl)
          (λ e _. refl) refl

      each : (ns : List ℕ) → ((c : ℕ) → listed c ns ≡ true → is_own k w c ≡ true) → trees_of m ns ≡ trees_of k ns
      each [] h = refl
      each (x ∷ ns) h = ap (λ t. beside t (trees_of m ns)) (trees x (h x (or_left (eqb x x) (listed x ns) (eq-eqb x x refl)))) ∙ ap (beside (tree k x)) (each ns (λ c l. h c (or_right (eqb x c) (listed c ns) l)))
