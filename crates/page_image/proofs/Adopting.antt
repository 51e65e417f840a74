-- A tree becomes the root's, of pages.
use Rattle.std.proofs.Common.{◌≡◌, ◌≢◌, ℕ, ◌<◌, List, [], ◌∷◌, Bool, true, false, refl, sym, ap, ◌∙◌, map, length, cond, eqb, eqb-true, eq-eqb, ne_eqb, ◌&&◌, not, Option, Some, None, ⊎_elim}
use Rattle.std.specs.Prelude.{is_some}
use Rattle.std.proofs.lemmas.Bool.{and_parts, or_cases}
use Rattle.code_units.specs.declared.owner.Owner.{Owner}
use Rattle.code_units.specs.declared.owner.Owner.TheVariants as owner
use Rattle.plain_tree.specs.Trees.{beside}
use Rattle.tree_ops.specs.Trees.{is_number, subtree, without, tops}
use Rattle.tree_ops.proofs.Absent.{grafted_off}
use Rattle.tree_ops.proofs.Tests.{or_left, or_right}
use Rattle.page_nodes.specs.Entries.{Entry, at, body, listed, tree}
use Rattle.page_nodes.specs.Moves.{IsLinked}
use Rattle.page_nodes.specs.Owners.{same_owner, root_in}
use Rattle.page_nodes.proofs.Owners.{same_is}
use Rattle.page_nodes.proofs.Walk.{without_body}
use Rattle.page_tree.specs.declared.page.Page.{Page}
use Rattle.page_tree.specs.Documents as page
use Rattle.page_tree.specs.Documents.{is_loose}
use Rattle.page_tree.specs.Pages.{nodes, root, root_after, HasNone, HasNoRoot, BecomesRoot}
use Rattle.query_grammar.specs.Finds.{has_number}
use Rattle.page_image.specs.Own.{is_own, own_number, page_forest, own_forest}
use Rattle.page_image.specs.Image.{owns, number, own, root_of, forest, is_shown}
use Rattle.page_image.specs.Stays.{GetsRoot, OthersStay}
use Rattle.page_image.proofs.Marked.{tops_marked}
use Rattle.page_image.proofs.Numbers.{tell, number_kept}
use Rattle.page_image.proofs.Owners.{own_nodes_same}
use Rattle.page_image.proofs.Pages.{owner_is, is_widget, one_owner}
use Rattle.page_image.proofs.Rooting.{forest_rooted}
use Rattle.page_image.proofs.Shown.{tops_shown, kept_passes, forest_shown, top_own, own_not_body}
use Rattle.page_image.proofs.Staying.{forest_stays}

no_true : false ≡ true → ⊥
no_true e = cc

none_some : (p : ℕ) → ◌≡◌ {A = Option ℕ} None (Some p) → ⊥
none_some p h = cc

some_is : (a b : ℕ) → ◌≡◌ {A = Option ℕ} (Some a) (Some b) → a ≡ b
some_is a b h = cc

-- ## A top of a widget without a root

module _ (p : Page) (w n : ℕ) (h : owns p w n ≡ true) (free : root_of p w ≡ None) where
  among : (k : List Entry) → is_own k w n ≡ true → (ns : List ℕ) → ((c : ℕ) → listed c ns ≡ true → is_own k w c ≡ true) → has_number (map (own_number k w) ns) (own_number k w n) ≡ true → listed n ns ≡ true
  among k hn [] q e = absurd (no_true e)
  among k hn (x ∷ ns) q e = ⊎_elim
      (λ a. or_left (eqb x n) (listed n ns) (eq-eqb x n (sym (eqb-true n x (sym (tell k w x n (q x (or_left (eqb x x) (listed x ns) (eq-eqb x x refl))) hn) ∙ a)))))
      (λ a. or_right (eqb x n) (listed n ns) (among k hn ns (λ c l. q c (or_right (eqb x c) (listed c ns) l)) a))
      (or_cases (eqb (own_number k w n) (own_number k w x)) (has_number (map (own_number k w) ns) (own_number k w n)) e)

  is_none : (u : Option ℕ) → not (is_some u) ≡ true → u ≡ None
  is_none None e = refl
  is_none (Some x) e = absurd (no_true e)

  -- it has no parent
  pub top_alone : has_number (tops (forest p w)) (number p w n) ≡ true → (at (nodes p) n).parent ≡ None
  unfolding owns number root_of forest
  top_alone l =
      let k = nodes p in
      let is = owner_is p w n h in
      let there : has_number (map (own_number k w) (page.tops k None (owner.Widget w))) (own_number k w n) ≡ true =
      sym (ap (λ ms. has_number ms (own_number k w n)) (tops_marked (own_number k w) (page_forest k None w) ∙ ap (map (own_number k w)) (tops_shown k (page.tops k None (owner.Widget w)) (page_forest k None w) (forest_shown k p.arena.sound p.roots p.rooted w None is free))))
      ∙ ap (λ u. has_number (tops (own_forest k u w)) (own_number k w n)) (sym free)
      ∙ l in
      let passes = kept_passes (is_loose k None (owner.Widget w)) n 0 (length k) (among k h (page.tops k None (owner.Widget w)) (top_own k p.arena.sound p.roots p.rooted w None is free) there) in
      is_none (at k n).parent ((and_parts _ _ ((and_parts _ _ passes).0)).1)

  -- its owner has no root
  pub has_none : HasNoRoot p (at (nodes p) n).owner
  unfolding owns root_of
  has_none = none_at (at (nodes p) n).owner (same_is (at (nodes p) n).owner (owner.Widget w) h)
    where
      none_at : (o : Owner) → o ≡ owner.Widget w → HasNone p.roots o
      none_at owner.Host e = tt
      none_at (owner.Widget v) e = ap (root_in p.roots) e ∙ free

-- ## A new root

-- What a new root leaves: all trees but that of `body`, and the parents of what is no root.
pub record NewRoot (old new : Page) (w n : ℕ) : Type 0 where
  pub made : length (nodes new) ≡ length (nodes old)
  pub owners : (x : ℕ) → (at (nodes new) x).owner ≡ (at (nodes old) x).owner
  pub parents : (v x : ℕ) → owns old v x ≡ true → x ≢ n → is_number x (root_of old v) ≡ false → is_some (at (nodes new) x).parent ≡ is_some (at (nodes old) x).parent
  pub trees : (x : ℕ) → x ≢ body → tree (nodes new) x ≡ tree (nodes old) x
  pub roots : BecomesRoot old new n

module _ (old new : Page) (w n : ℕ) (h : owns old w n ≡ true) (free : root_of old w ≡ None) (c : NewRoot old new w n) where
  mine : (at (nodes old) n).owner ≡ owner.Widget w
  unfolding owns
  mine = same_is (at (nodes old) n).owner (owner.Widget w) h

  root_now : root_of new w ≡ Some n
  unfolding root_of
  root_now =
      c.roots (owner.Widget w) (owner_is old w n h)
      ∙ ap (λ o. root_after n o (root old) (owner.Widget w)) mine
      ∙ ap (λ b. cond (b && true) (Some n) (root old (owner.Widget w))) (eq-eqb w w refl)

  roots_then : (v : ℕ) → v < 32 → v ≢ w → root_of new v ≡ root_of old v
  unfolding root_of
  roots_then v lt ne =
      c.roots (owner.Widget v) (is_widget v lt)
      ∙ ap (λ o. root_after n o (root old) (owner.Widget v)) mine
      ∙ ap (λ b. cond (b && true) (Some n) (root old (owner.Widget v))) (ne_eqb v w ne)

  pub gets_root : GetsRoot old new w n
  unfolding owns number own
  gets_root = record {
    owners = λ v x. ap (λ o. same_owner o (owner.Widget v)) (c.owners x);
    numbers = λ v x. number_kept (nodes old) (nodes new) v c.made c.owners x;
    nodes = λ v. own_nodes_same (nodes old) (nodes new) v 0 c.made c.owners;
    root = root_now;
    others = roots_then;
  }

  pub root_image : has_number (tops (forest old w)) (number old w n) ≡ true → forest new w ≡ beside (subtree (number old w n) (forest old w)) (without (number old w n) (forest old w))
  unfolding owns number root_of forest
  root_image l =
      let s = old.arena.sound in
      ap (λ u. own_forest (nodes new) u w) root_now
      ∙ forest_rooted (nodes old) s old.roots old.rooted w (owner_is old w n h) free (nodes new) n h (top_alone old w n h free l) c.made c.owners
      (λ x e ne. c.parents w x e ne (ap (is_number x) free))
      (λ x e. c.trees x (own_not_body (nodes old) s w x e))
      ∙ ap (λ u. beside (subtree (own_number (nodes old) w n) (own_forest (nodes old) u w)) (without (own_number (nodes old) w n) (own_forest (nodes old) u w))) (sym free)

  -- another's node is not the new root
  away : (v x : ℕ) → v ≢ w → owns old v x ≡ true → x ≢ n
  away v x ne e g = no_true (sym (one_owner old v w x ne e) ∙ ap (owns old w) g ∙ h)

  pub root_others : OthersStay old new w
  unfolding owns root_of forest
  root_others = λ v lt ne.
      ap (λ u. own_forest (nodes new) u v) (roots_then v lt ne)
      ∙ forest_stays (nodes old) old.arena.sound old.roots old.rooted v (root old (owner.Widget v)) (is_widget v lt) refl (nodes new) c.made c.owners
      (λ x e off. c.parents v x e (away v x ne e) off)
      (λ x e. c.trees x (own_not_body (nodes old) old.arena.sound v x e))

-- ## The call

pub linked_root : (old new : Page) (w n : ℕ) → IsLinked (nodes old) (nodes new) body None n → BecomesRoot old new n → NewRoot old new w n
linked_root old new w n c b = record {
  made = c.kept.made;
  owners = c.kept.owners;
  parents = λ v x e ne off. ap is_some (c.parents x ∙ ap (λ t. cond t (Some body) (at (nodes old) x).parent) (ne_eqb x n ne));
  trees = λ x ne. c.trees x ∙ grafted_off body None (tree (nodes old) n) (tree (nodes old) x) (without_body (nodes old) old.arena.sound x ne);
  roots = b;
}

pub linked_shown : (old new : Page) (n : ℕ) → IsLinked (nodes old) (nodes new) body None n → is_shown new n ≡ true
unfolding is_shown
linked_shown old new n c = ap (is_number body) (c.parents n ∙ ap (λ t. cond t (Some body) (at (nodes old) n).parent) (eq-eqb n n refl))

pub shown_is : (p : Page) (n : ℕ) (u : Option ℕ) (b : Bool) → u ≡ (at (nodes p) n).parent → b ≡ is_number body u → b ≡ is_shown p n
unfolding is_shown
shown_is p n u b e f = f ∙ ap (is_number body) e
