-- Nodes come in the place of another, at the image.
use Rattle.std.proofs.Common.{◌≡◌, ◌≢◌, ℕ, List, [], ◌∷◌, Bool, true, false, refl, sym, ap, ◌∙◌, subst, map, cond, eqb, eqb-true, eq-eqb, ne_eqb, ◌||◌, ◌&&◌, not, Option, Some, None, ◌⊎◌, inl, inr, ⊎_elim, Result, OnOk, OnErr}
use Rattle.std.specs.Prelude.{is_some, slice_index}
use Rattle.std.specs.List.{fold}
use Rattle.std.specs.Option.{option_map_or}
use Rattle.std.proofs.lemmas.Bool.{eqb-false, cases_Bool}
use Rattle.code_units.specs.declared.owner.Owner.TheVariants as owner
use Rattle.tree_ops.specs.Labels.{is_leaf}
use Rattle.tree_ops.specs.Trees.{is_number}
use Rattle.tree_ops.proofs.Tests.{or_left, or_right}
use Rattle.page_nodes.specs.Entries.{at, listed}
use Rattle.page_nodes.specs.Moves as page
use Rattle.page_tree.specs.declared.fault.PageFault.{PageFault}
use Rattle.page_tree.specs.declared.fault.PageFault.TheVariants as fault
use Rattle.page_tree.specs.declared.page.Page.{Page}
use Rattle.page_tree.specs.Pages.{nodes, root, SameRoots, Replaces, ReplaceSteps, RefusesReplace}
use Rattle.query_grammar.specs.Finds.{has_number}
use Rattle.query_grammar.specs.Renumbering.{renumbered}
use Rattle.widget_meaning.specs.Trees.{detached, moved, parent}
use Rattle.page_image.specs.Image.{owns, number, root_of, forest, HasRoot}
use Rattle.page_image.specs.Stays.{KeepsNodes, OthersStay}
use Rattle.page_image.specs.Targets.{takes, may_come}
use Rattle.page_image.proofs.Calls.{at_place}
use Rattle.page_image.proofs.Lists.{has_listed}
use Rattle.page_image.proofs.Looks.{same_widget, parent_none, parent_some, parent_mine, told_apart}
use Rattle.page_image.proofs.Moving.{puts_keep}
use Rattle.page_image.proofs.Pages.{keeps, others_stay, all_keep, all_stay, replace_image, puts_parent}
use Rattle.page_image.proofs.Results.{either}
use Rattle.page_image.proofs.Taking.{index_has, may_take, not_inside, too_deep}

no_true : false ≡ true → ⊥
no_true e = cc

some_is : (a b : ℕ) → ◌≡◌ {A = Option ℕ} (Some a) (Some b) → a ≡ b
some_is a b h = cc

-- ## Before the call

module _ (p : Page) (w : ℕ) (home : HasRoot p w) (n : ℕ) (hn : owns p w n ≡ true) where
  -- a node that is not the root is not that of the page
  off_root : n ≢ home.root → is_number n (root p (owner.Widget w)) ≡ false
  unfolding root_of
  off_root ne = ap (is_number n) home.is ∙ ne_eqb n home.root ne

  on_root : n ≡ home.root → is_number n (root p (owner.Widget w)) ≡ true
  unfolding root_of
  on_root e = ap (is_number n) home.is ∙ eq-eqb n home.root e

  named : (t : ℕ) → (at (nodes p) n).parent ≡ Some t → n ≢ home.root → renumbered (number p w) (Some t) ≡ parent (number p w n) (forest p w)
  named t u ne = parent_some p w n hn (root p (owner.Widget w)) (Some t) false refl (sym (off_root ne)) refl (sym u)

  mine : (t : ℕ) → (at (nodes p) n).parent ≡ Some t → n ≢ home.root → owns p w t ≡ true
  mine t u ne = parent_mine p w n hn (root p (owner.Widget w)) (Some t) false refl (sym (off_root ne)) refl (sym u)

  rootless : n ≡ home.root → parent (number p w n) (forest p w) ≡ None
  rootless e = sym (parent_none p w n hn (root p (owner.Widget w)) true refl (sym (on_root e)) refl)

  topless : (at (nodes p) n).parent ≡ None → parent (number p w n) (forest p w) ≡ None
  topless u = ⊎_elim
      (λ e. rootless (eqb-true n home.root e))
      (λ e. sym (parent_some p w n hn (root p (owner.Widget w)) None false refl (sym (off_root (eqb-false n home.root e))) refl (sym u)))
      (cases_Bool (eqb n home.root))

  module _ (ns : List ℕ) (own : (x : ℕ) → has_number ns x ≡ true → owns p w x ≡ true) where
    has_mapped : (ms : List ℕ) → ((x : ℕ) → has_number ms x ≡ true → owns p w x ≡ true) → has_number (map (number p w) ms) (number p w n) ≡ has_number ms n
    has_mapped [] h = refl
    has_mapped (m ∷ ms) h =
        ap (λ b. b || has_number (map (number p w) ms) (number p w n)) (told_apart p w m n (h m (or_left (eqb m m) (has_number ms m) (eq-eqb m m refl))) hn)
        ∙ ap (λ b. eqb n m || b) (has_mapped ms (λ x l. h x (or_right (eqb x m) (has_number ms x) l)))

    none_comes : (u : Option ℕ) → parent (number p w n) (forest p w) ≡ u → u ≡ None → may_come (forest p w) (map (number p w) ns) (number p w n) ≡ false
    none_comes u e f = ap (λ o. option_map_or (λ q. not (has_number (map (number p w) ns) (number p w n)) && takes (forest p w) (map (number p w) ns) q) o false) (e ∙ f)

    comes_if : (t : ℕ) → parent (number p w n) (forest p w) ≡ Some (number p w t) → may_come (forest p w) (map (number p w) ns) (number p w n) ≡ (not (has_number (map (number p w) ns) (number p w n)) && takes (forest p w) (map (number p w) ns) (number p w t))
    comes_if t e = ap (λ o. option_map_or (λ q. not (has_number (map (number p w) ns) (number p w n)) && takes (forest p w) (map (number p w) ns) q) o false) e

    no_and : (a b : Bool) → b ≡ false → (a && b) ≡ false
    no_and true b e = e
    no_and false b e = refl

    not_taken : (t : ℕ) → (at (nodes p) n).parent ≡ Some t → ((ht : owns p w t ≡ true) → takes (forest p w) (map (number p w) ns) (number p w t) ≡ false) → may_come (forest p w) (map (number p w) ns) (number p w n) ≡ false
    not_taken t u h = ⊎_elim
        (λ e. none_comes _ (rootless (eqb-true n home.root e)) refl)
        (λ e. let ne = eqb-false n home.root e in comes_if t (sym (named t u ne)) ∙ no_and _ _ (h (mine t u ne)))
        (cases_Bool (eqb n home.root))

    among : listed n ns ≡ true → may_come (forest p w) (map (number p w) ns) (number p w n) ≡ false
    among l = by_parent (parent (number p w n) (forest p w))
      where
        here : has_number (map (number p w) ns) (number p w n) ≡ true
        here = has_mapped ns own ∙ has_listed n ns ∙ l

        by_parent : (u : Option ℕ) → option_map_or (λ q. not (has_number (map (number p w) ns) (number p w n)) && takes (forest p w) (map (number p w) ns) q) u false ≡ false
        by_parent None = refl
        by_parent (Some q) = ap (λ b. not b && takes (forest p w) (map (number p w) ns) q) here

    pub replace_refused : (e : PageFault) → RefusesReplace (nodes p) (root p) n ns e → (e ≡ fault.Memory) ⊎ (may_come (forest p w) (map (number p w) ns) (number p w n) ≡ false)
    replace_refused fault.Memory c = inl refl
    replace_refused fault.NotInside c = inr (⊎_elim
        (λ e. none_comes _ (rootless (some_is n home.root (sym e ∙ same_widget p w home n hn))) refl)
        (λ d. ⊎_elim
        (λ u. none_comes _ (topless u) refl)
        (λ f. ⊎_elim among (λ q. not_taken (q.0) (q.1) (λ ht. not_inside p w home (q.0) ht ns own (q.2))) f)
        d)
        c)
    replace_refused fault.TooDeep c = inr (let q = c.1 in not_taken (q.0) (q.1) (λ ht. too_deep p w home (q.0) ht ns own (q.2)))
    replace_refused (fault.Nodes kept) c = absurd c

-- ## The call

module _ (old new : Page) (same : SameRoots old new) (w : ℕ) (home : HasRoot old w) (n : ℕ) (hn : owns old w n ≡ true) (ns : List ℕ) (own : (x : ℕ) → has_number ns x ≡ true → owns old w x ≡ true) where
  pub replaced_image : Replaces (nodes old) (nodes new) (root old) n ns → ReplaceSteps (nodes old) (nodes new) n ns → (q : ℕ) → parent (number old w n) (forest old w) ≡ Some q → forest new w ≡ detached (fold (moved q (Some (number old w n))) (forest old w) (map (number old w) ns)) (number old w n)
  replaced_image c d q e =
      replace_image old new same w home d.parent n ns d.page (mine old w home n hn d.parent d.is ne) hn ne leaf (λ x l. (own x l, no_root x l)) d.put d.sound d.taken
      ∙ ap (λ p. detached (fold (moved p (Some (number old w n))) (forest old w) (map (number old w) ns)) (number old w n)) (some_is (number old w d.parent) q (named old w home n hn d.parent d.is ne ∙ e))
    where
      ne : n ≢ home.root
      ne g = (c.1).no_root (same_widget old w home n hn ∙ ap Some (sym g))

      same_parent : c.0 ≡ d.parent
      same_parent = some_is (c.0) d.parent (sym (c.1).parent ∙ d.is)

      leaf : is_leaf (at (nodes old) d.parent).label ≡ false
      leaf = subst (λ x. is_leaf (at (nodes old) x).label ≡ false) same_parent (c.1).may.open_target

      no_root : (x : ℕ) → has_number ns x ≡ true → x ≢ home.root
      no_root x l g =
          let i = at_place ns x l in
          ((c.1).may.inside (i.0) (i.1)).no_root (same_widget old w home (slice_index ns (i.0)) (own (slice_index ns (i.0)) (index_has ns (i.0) (i.1))) ∙ ap Some (sym g ∙ sym (i.2)))

  pub replaced_allowed : Replaces (nodes old) (nodes new) (root old) n ns → may_come (forest old w) (map (number old w) ns) (number old w n) ≡ true
  replaced_allowed c =
      comes_if old w home n hn ns own (c.0) (sym (named old w home n hn (c.0) (c.1).parent ne))
      ∙ ap (λ b. not b && takes (forest old w) (map (number old w) ns) (number old w (c.0))) (has_mapped old w home n hn ns own ns own ∙ has_listed n ns ∙ (c.1).away)
      ∙ may_take old w home (c.0) (mine old w home n hn (c.0) (c.1).parent ne) ns own (c.1).may
    where
      ne : n ≢ home.root
      ne g = (c.1).no_root (same_widget old w home n hn ∙ ap Some (sym g))

  other : (x : ℕ) → owns old w x ≡ false → (m : ℕ) → has_number ns m ≡ true → x ≢ m
  other x off m l e = no_true (sym off ∙ ap (owns old w) e ∙ own m l)

  pub replaced_keeps : {T E : Type 0} (r : Result T E) → OnOk r (ReplaceSteps (nodes old) (nodes new) n ns) → OnErr r (nodes new ≡ nodes old) → KeepsNodes old new
  replaced_keeps r a b = either r (ReplaceSteps (nodes old) (nodes new) n ns) (nodes new ≡ nodes old) (KeepsNodes old new)
      (λ d. let q = puts_keep (nodes old) d.parent (Some n) d.page ns d.put in keeps old new same (d.taken.kept.made ∙ q.made) (λ x. d.taken.kept.owners x ∙ q.owners x))
      (all_keep old new same) a b

  pub replaced_others : {T E : Type 0} (r : Result T E) → OnOk r (ReplaceSteps (nodes old) (nodes new) n ns) → OnErr r (nodes new ≡ nodes old) → page.OthersStay (nodes old) (nodes new) n → OthersStay old new w
  replaced_others r a b others = either r (ReplaceSteps (nodes old) (nodes new) n ns) (nodes new ≡ nodes old) (OthersStay old new w)
      (λ d. let q = puts_keep (nodes old) d.parent (Some n) d.page ns d.put in
      others_stay old new same w n hn (d.taken.kept.made ∙ q.made) (λ x. d.taken.kept.owners x ∙ q.owners x)
      (λ x off. ap is_some (d.taken.parents x ∙ ap (λ b. cond b None (at d.page x).parent) (ne_eqb x n (λ e. no_true (sym off ∙ ap (owns old w) e ∙ hn))) ∙ puts_parent (nodes old) d.parent (Some n) d.page ns x d.put (other x off))) others)
      (λ e v lt ne. all_stay old new same e v lt) a b
