-- Each call of the page, as one widget and as the others see it.
use Rattle.std.proofs.Common.{◌≡◌, ◌≢◌, ℕ, ◌<◌, List, [], ◌∷◌, Bool, true, false, refl, sym, ap, ◌∙◌, map, length, eqb-true, ne_eqb, cond, ◌||◌, arith, Option, Some, None, ⊎_elim}
use Rattle.std.specs.Prelude.{is_some}
use Rattle.std.specs.List.{fold}
use Rattle.std.specs.Option.{option_map_or}
use Rattle.std.proofs.lemmas.Bool.{cases_Bool, ltb-true}
use Rattle.std.proofs.lemmas.Bool.Decides.{nat_tests}
use Rattle.code_units.specs.declared.owner.Owner.TheVariants as owner
use Rattle.plain_tree.specs.Trees.{Label}
use Rattle.tree_ops.specs.Labels.{is_leaf}
use Rattle.tree_ops.specs.Trees.{relabelled}
use Rattle.page_nodes.specs.Entries.{Entry, at, body, tree, IsSound}
use Rattle.page_nodes.specs.Moves as page
use Rattle.page_nodes.specs.Moves.{Detached, Puts, none_put, put_last, IsRelabelled}
use Rattle.page_nodes.specs.Owners.{is_owner, same_owner}
use Rattle.page_nodes.proofs.Owners.{same_is, is_same}
use Rattle.page_tree.specs.declared.page.Page.{Page}
use Rattle.page_tree.specs.Pages.{nodes, root, SameRoots}
use Rattle.query_grammar.specs.Finds.{has_number}
use Rattle.query_grammar.proofs.Numbers.{has_both, has_first}
use Rattle.widget_meaning.specs.Trees.{detached, moved}
use Rattle.page_image.specs.Own.{is_own, own_number, own_forest}
use Rattle.page_image.specs.Image.{owns, number, own, root_of, forest, HasRoot, relabel_in}
use Rattle.page_image.specs.Stays.{KeepsNodes, OthersStay}
use Rattle.page_image.proofs.Moving.{forest_moved, forest_replaced}
use Rattle.page_image.proofs.Numbers.{number_kept}
use Rattle.page_image.proofs.Owners.{own_nodes_same}
use Rattle.page_image.proofs.Shown.{own_is_node, own_not_body}
use Rattle.page_image.proofs.Staying.{forest_stays}
use Rattle.page_image.proofs.Looking.{label_own}
use Rattle.page_image.proofs.Steps.{forest_detached, forest_relabelled}

no_true : false ≡ true → ⊥
no_true e = cc

-- ## Nodes of a widget

pub owner_is : (p : Page) (w n : ℕ) → owns p w n ≡ true → is_owner (owner.Widget w) ≡ true
unfolding owns
owner_is p w n h = ap is_owner (sym (same_is (at (nodes p) n).owner (owner.Widget w) h)) ∙ p.rooted.owners n

pub below_32 : (p : Page) (w n : ℕ) → owns p w n ≡ true → w < 32
below_32 p w n h = ltb-true w 32 (owner_is p w n h)

pub is_node : (p : Page) (w n : ℕ) → owns p w n ≡ true → n < length (nodes p)
unfolding owns
is_node p w n h = own_is_node (nodes p) w n h

pub is_widget : (w : ℕ) → w < 32 → is_owner (owner.Widget w) ≡ true
is_widget w lt = grind (arith, nat_tests, lt)

-- one node has one owner
pub one_owner : (p : Page) (v w n : ℕ) → v ≢ w → owns p v n ≡ true → owns p w n ≡ false
unfolding owns
one_owner p v w n ne h = ⊎_elim (λ e. absurd (ne (eqb-true v w (is_same (owner.Widget v) (owner.Widget w) (sym (same_is (at (nodes p) n).owner (owner.Widget v) h) ∙ same_is (at (nodes p) n).owner (owner.Widget w) e))))) (λ e. e) (cases_Bool (is_own (nodes p) w n))

-- a node whose number is not 0 is not the root
pub not_root : (p : Page) (w n : ℕ) (home : HasRoot p w) → number p w n ≢ 0 → n ≢ home.root
not_root p w n home ne e = ne (ap (number p w) e ∙ home.first)

-- ## Where nodes stay

module _ (old new : Page) (same : SameRoots old new) where
  pub keeps : length (nodes new) ≡ length (nodes old) → ((x : ℕ) → (at (nodes new) x).owner ≡ (at (nodes old) x).owner) → KeepsNodes old new
  unfolding owns number own root_of
  keeps made owners = record {
    owners = λ v n. ap (λ o. same_owner o (owner.Widget v)) (owners n);
    numbers = λ v n. number_kept (nodes old) (nodes new) v made owners n;
    nodes = λ v. own_nodes_same (nodes old) (nodes new) v 0 made owners;
    roots = λ v lt. same (owner.Widget v) (is_widget v lt);
  }

  -- the trees of the others
  pub others_by : (w : ℕ) → length (nodes new) ≡ length (nodes old) → ((x : ℕ) → (at (nodes new) x).owner ≡ (at (nodes old) x).owner) → ((x : ℕ) → owns old w x ≡ false → is_some (at (nodes new) x).parent ≡ is_some (at (nodes old) x).parent) → ((x : ℕ) → x ≢ body → owns old w x ≡ false → tree (nodes new) x ≡ tree (nodes old) x) → OthersStay old new w
  unfolding owns number own root_of forest
  others_by w made owners parents trees = λ v lt ne.
      ap (λ u. own_forest (nodes new) u v) (same (owner.Widget v) (is_widget v lt))
      ∙ forest_stays (nodes old) old.arena.sound old.roots old.rooted v (root old (owner.Widget v)) (is_widget v lt) refl (nodes new) made owners
      (λ x e _. parents x (one_owner old v w x ne e))
      (λ x e. trees x (own_not_body (nodes old) old.arena.sound v x e) (one_owner old v w x ne e))

  pub others_stay : (w t : ℕ) → owns old w t ≡ true → length (nodes new) ≡ length (nodes old) → ((x : ℕ) → (at (nodes new) x).owner ≡ (at (nodes old) x).owner) → ((x : ℕ) → owns old w x ≡ false → is_some (at (nodes new) x).parent ≡ is_some (at (nodes old) x).parent) → page.OthersStay (nodes old) (nodes new) t → OthersStay old new w
  unfolding owns
  others_stay w t h made owners parents trees = others_by w made owners parents (λ x nb off. trees x nb (λ g. no_true (sym off ∙ ap (λ o. same_owner o (owner.Widget w)) g ∙ h)))

-- a page that stays
pub all_keep : (old new : Page) → SameRoots old new → nodes new ≡ nodes old → KeepsNodes old new
all_keep old new same e = keeps old new same (ap length e) (λ x. ap (λ k. (at k x).owner) e)

pub all_stay : (old new : Page) → SameRoots old new → nodes new ≡ nodes old → (v : ℕ) → v < 32 → forest new v ≡ forest old v
unfolding forest
all_stay old new same e v lt = ap (λ u. own_forest (nodes new) u v) (same (owner.Widget v) (is_widget v lt)) ∙ ap (λ k. own_forest k (root old (owner.Widget v)) v) e

-- ## The calls

module _ (old new : Page) (same : SameRoots old new) (w : ℕ) (home : HasRoot old w) where
  -- a node is taken from its parent
  pub detach_image : (n : ℕ) → owns old w n ≡ true → number old w n ≢ 0 → Detached (nodes old) (nodes new) n → forest new w ≡ detached (forest old w) (number old w n)
  unfolding owns number root_of forest
  detach_image n h ne c =
      ap (λ u. own_forest (nodes new) u w) (same (owner.Widget w) (owner_is old w n h) ∙ home.is)
      ∙ forest_detached (nodes old) old.arena.sound old.roots old.rooted w home.root (owner_is old w n h) home.is (nodes new) n c h (not_root old w n home ne)
      ∙ ap (λ u. detached (own_forest (nodes old) u w) (own_number (nodes old) w n)) (sym home.is)

  -- a node gets another label
  pub label_image : (n : ℕ) (change : Label → Label) → owns old w n ≡ true → IsRelabelled (nodes old) (nodes new) n (change (at (nodes old) n).label) → forest new w ≡ relabel_in change (forest old w) (number old w n)
  unfolding owns number root_of forest
  label_image n change h c =
      ap (λ u. own_forest (nodes new) u w) (same (owner.Widget w) (owner_is old w n h) ∙ home.is)
      ∙ forest_relabelled (nodes old) old.arena.sound old.roots old.rooted w home.root (owner_is old w n h) home.is (nodes new) n (change (at (nodes old) n).label) c h
      ∙ sym (ap (λ o. option_map_or (λ l. relabelled (own_number (nodes old) w n) (change l) (own_forest (nodes old) (Some home.root) w)) o (own_forest (nodes old) (Some home.root) w)) (label_own (nodes old) old.arena.sound old.roots old.rooted w (Some home.root) (owner_is old w n h) home.is n h))
      ∙ ap (λ u. relabel_in change (own_forest (nodes old) u w) (own_number (nodes old) w n)) (sym home.is)

  -- nodes are put under a target
  pub move_image : (t : ℕ) (ns : List ℕ) → owns old w t ≡ true → is_leaf (at (nodes old) t).label ≡ false → ((n : ℕ) → has_number ns n ≡ true → (owns old w n ≡ true) × (n ≢ home.root)) → Puts (nodes old) t None ns (nodes new) → forest new w ≡ fold (moved (number old w t) None) (forest old w) (map (number old w) ns)
  unfolding owns number root_of forest
  move_image t ns h leaf own c =
      ap (λ u. own_forest (nodes new) u w) (same (owner.Widget w) (owner_is old w t h) ∙ home.is)
      ∙ (forest_moved (nodes old) old.roots old.rooted w home.root (owner_is old w t h) home.is t None h leaf tt (nodes new) ns c own).trees
      ∙ ap (λ u. fold (moved (own_number (nodes old) w t) None) (own_forest (nodes old) u w) (map (own_number (nodes old) w) ns)) (sym home.is)

  -- nodes come in the place of another
  pub replace_image : (t n : ℕ) (ns : List ℕ) (mid : List Entry) → owns old w t ≡ true → owns old w n ≡ true → n ≢ home.root → is_leaf (at (nodes old) t).label ≡ false → ((x : ℕ) → has_number ns x ≡ true → (owns old w x ≡ true) × (x ≢ home.root)) → Puts (nodes old) t (Some n) ns mid → IsSound mid → Detached mid (nodes new) n → forest new w ≡ detached (fold (moved (number old w t) (Some (number old w n))) (forest old w) (map (number old w) ns)) (number old w n)
  unfolding owns number root_of forest
  replace_image t n ns mid h mine ne leaf own c sound d =
      ap (λ u. own_forest (nodes new) u w) (same (owner.Widget w) (owner_is old w t h) ∙ home.is)
      ∙ forest_replaced (nodes old) old.roots old.rooted w home.root (owner_is old w t h) home.is t n h leaf mine ne mid (nodes new) ns c sound d own
      ∙ ap (λ u. detached (fold (moved (own_number (nodes old) w t) (Some (own_number (nodes old) w n))) (own_forest (nodes old) u w) (map (own_number (nodes old) w) ns)) (own_number (nodes old) w n)) (sym home.is)

-- ## Parents of what is not moved

pub puts_parent : (k : List Entry) (t : ℕ) (s : Option ℕ) (m : List Entry) (ns : List ℕ) (x : ℕ) → Puts k t s ns m → ((n : ℕ) → has_number ns n ≡ true → x ≢ n) → (at m x).parent ≡ (at k x).parent
puts_parent k t s m _ x none_put ne = refl
puts_parent k t s m _ x (put_last {ns = ns} {m = mid} {n = n} h sound may c) ne =
    c.parents x
    ∙ ap (λ b. cond b (Some t) (at mid x).parent) (ne_eqb x n (ne n (has_both n ns (n ∷ []) ∙ last (has_number ns n) (has_first n []))))
    ∙ puts_parent k t s mid ns x h (λ y e. ne y (has_both y ns (n ∷ []) ∙ first (has_number ns y) (has_number (n ∷ []) y) e))
  where
    last : (a : Bool) {b : Bool} → b ≡ true → (a || b) ≡ true
    last true e = refl
    last false e = e

    first : (a b : Bool) → a ≡ true → (a || b) ≡ true
    first true b e = refl
    first false b e = cc
