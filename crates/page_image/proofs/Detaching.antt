-- Several nodes are taken from their parents, at the image.
use Rattle.std.proofs.Common.{◌≡◌, ◌≢◌, ℕ, List, [], ◌∷◌, Bool, true, false, refl, sym, ap, ◌∙◌, map, cond, ne_eqb, ◌||◌, Option, Some, None}
use Rattle.std.specs.Prelude.{is_some, slice_index}
use Rattle.std.specs.List.{fold}
use Rattle.code_units.specs.declared.owner.Owner.TheVariants as owner
use Rattle.page_nodes.specs.Entries.{Entry, at, body, tree}
use Rattle.page_nodes.specs.Moves.{KeepsNodes, Detaches, none_detached, detach_last, OthersOfAllStay}
use Rattle.page_nodes.specs.Owners.{is_owner, same_owner, root_in}
use Rattle.page_nodes.proofs.Put.{kept_then}
use Rattle.page_tree.specs.declared.page.Page.{Page}
use Rattle.page_tree.specs.Pages.{nodes, SameRoots, AreNoRoots}
use Rattle.page_tree.specs.Roots.{IsRooted}
use Rattle.page_tree.proofs.RootsKept.{rooted_cut}
use Rattle.query_grammar.specs.Finds.{has_number}
use Rattle.query_grammar.proofs.Numbers.{has_both, has_first}
use Rattle.widget_meaning.specs.Trees.{detached}
use Rattle.page_image.specs.Image.{owns, number, root_of, forest, HasRoot}
use Rattle.page_image.specs.Own.{is_own, own_number, own_forest}
use Rattle.page_image.specs.Stays as image
use Rattle.page_image.specs.Stays.{OthersStay}
use Rattle.page_image.proofs.Lists.{has_listed}
use Rattle.page_image.proofs.Looks.{some_same}
use Rattle.page_image.proofs.Owners.{fold_last, map_last, numbers_same}
use Rattle.page_image.proofs.Pages.{keeps, not_root, others_by}
use Rattle.page_image.proofs.Steps.{forest_detached}
use Rattle.page_image.proofs.Taking.{index_has}

no_true : false ≡ true → ⊥
no_true e = cc

last : (a : Bool) {b : Bool} → b ≡ true → (a || b) ≡ true
last true e = refl
last false e = e

first : (a b : Bool) → a ≡ true → (a || b) ≡ true
first true b e = refl
first false b e = cc

pub detaches_keep : (k m : List Entry) (ns : List ℕ) → Detaches k ns m → KeepsNodes k m
detaches_keep k m _ none_detached = record { made = refl; labels = λ x. refl; owners = λ x. refl }
detaches_keep k m _ (detach_last {m = mid} h sound c) = kept_then k mid m (detaches_keep k mid _ h) c.kept

pub detaches_parent : (k m : List Entry) (ns : List ℕ) (x : ℕ) → Detaches k ns m → ((n : ℕ) → has_number ns n ≡ true → x ≢ n) → (at m x).parent ≡ (at k x).parent
detaches_parent k m _ x none_detached ne = refl
detaches_parent k m _ x (detach_last {ns = ns} {m = mid} {n = n} h sound c) ne =
    c.parents x
    ∙ ap (λ b. cond b None (at mid x).parent) (ne_eqb x n (ne n (has_both n ns (n ∷ []) ∙ last (has_number ns n) (has_first n []))))
    ∙ detaches_parent k mid ns x h (λ y e. ne y (has_both y ns (n ∷ []) ∙ first (has_number ns y) (has_number (n ∷ []) y) e))

module _ (k : List Entry) (roots : List (Option ℕ)) (rooted : IsRooted k roots) (w r : ℕ) (is : is_owner (owner.Widget w) ≡ true) (root : root_in roots (owner.Widget w) ≡ Some r) where
  pub record AllDetached (ns : List ℕ) (m : List Entry) : Type 0 where
    pub still : IsRooted m roots
    pub trees : own_forest m (Some r) w ≡ fold detached (own_forest k (Some r) w) (map (own_number k w) ns)

  pub all_detached : (m : List Entry) (ns : List ℕ) → Detaches k ns m → ((n : ℕ) → has_number ns n ≡ true → (is_own k w n ≡ true) × (n ≢ r)) → AllDetached ns m
  all_detached m _ none_detached own = record { still = rooted; trees = refl }
  all_detached m _ (detach_last {ns = ns} {m = mid} {n = n} h sound c) own =
      let q = detaches_keep k mid ns h in
      let mine = own n (has_both n ns (n ∷ []) ∙ last (has_number ns n) (has_first n [])) in
      let there : is_own mid w n ≡ true = ap (λ o. same_owner o (owner.Widget w)) (q.owners n) ∙ mine.0 in
      let past = all_detached mid ns h (λ x e. own x (has_both x ns (n ∷ []) ∙ first (has_number ns x) (has_number (n ∷ []) x) e)) in
      record {
        still = rooted_cut mid m roots n past.still c;
        trees =
            forest_detached mid sound roots past.still w r is root m n c there (mine.1)
            ∙ ap (λ (f : ℕ → ℕ). detached (own_forest mid (Some r) w) (f n)) (numbers_same k mid w q.made q.owners)
            ∙ ap (λ ts. detached ts (own_number k w n)) past.trees
            ∙ sym (fold_last detached (own_forest k (Some r) w) (map (own_number k w) ns) (own_number k w n))
            ∙ ap (fold detached (own_forest k (Some r) w)) (sym (map_last (own_number k w) ns n));
      }

-- ## The page

module _ (old new : Page) (same : SameRoots old new) (w : ℕ) (ns : List ℕ) (c : Detaches (nodes old) ns (nodes new)) where
  pub all_keeps : image.KeepsNodes old new
  all_keeps = let q = detaches_keep (nodes old) (nodes new) ns c in keeps old new same q.made q.owners

  module _ (home : HasRoot old w) (is : is_owner (owner.Widget w) ≡ true) (own : (n : ℕ) → has_number ns n ≡ true → owns old w n ≡ true) where
    pub all_image : ((n : ℕ) → has_number ns n ≡ true → n ≢ home.root) → forest new w ≡ fold detached (forest old w) (map (number old w) ns)
    unfolding owns number root_of forest
    all_image ne =
        ap (λ u. own_forest (nodes new) u w) (same (owner.Widget w) is ∙ home.is)
        ∙ (all_detached (nodes old) old.roots old.rooted w home.root is home.is (nodes new) ns c (λ n l. (own n l, ne n l))).trees
        ∙ ap (λ u. fold detached (own_forest (nodes old) u w) (map (own_number (nodes old) w) ns)) (sym home.is)

    other : (x : ℕ) → owns old w x ≡ false → (n : ℕ) → has_number ns n ≡ true → x ≢ n
    other x off n l e = no_true (sym off ∙ ap (owns old w) e ∙ own n l)

    pub all_others : ((x : ℕ) → x ≢ body → owns old w x ≡ false → tree (nodes new) x ≡ tree (nodes old) x) → OthersStay old new w
    all_others trees =
        let q = detaches_keep (nodes old) (nodes new) ns c in
        others_by old new same w q.made q.owners (λ x off. ap is_some (detaches_parent (nodes old) (nodes new) ns x c (other x off))) trees

-- nodes of a widget other than its root
pub no_roots : (p : Page) (w : ℕ) (home : HasRoot p w) (ns : List ℕ) → ((n : ℕ) → has_number ns n ≡ true → owns p w n ≡ true) → ((n : ℕ) → has_number ns n ≡ true → number p w n ≢ 0) → AreNoRoots p ns
no_roots p w home ns own ne i lt = some_same p w (slice_index ns i) home (own (slice_index ns i) (index_has ns i lt)) (not_root p w (slice_index ns i) home (ne (slice_index ns i) (index_has ns i lt)))

-- what is another's stays where it is of none of them
pub others_of_all : (old new : Page) (w : ℕ) (ns : List ℕ) → ((n : ℕ) → has_number ns n ≡ true → owns old w n ≡ true) → OthersOfAllStay (nodes old) (nodes new) ns → (x : ℕ) → x ≢ body → owns old w x ≡ false → tree (nodes new) x ≡ tree (nodes old) x
unfolding owns
others_of_all old new w ns own stay x ne off = stay x ne (λ n l g. no_true (sym off ∙ ap (λ o. same_owner o (owner.Widget w)) g ∙ own n (has_listed n ns ∙ l)))

-- and where a node is a widget's
pub others_of_one : (old new : Page) (w n : ℕ) → owns old w n ≡ true → ((x : ℕ) → x ≢ body → (at (nodes old) x).owner ≢ (at (nodes old) n).owner → tree (nodes new) x ≡ tree (nodes old) x) → (x : ℕ) → x ≢ body → owns old w x ≡ false → tree (nodes new) x ≡ tree (nodes old) x
unfolding owns
others_of_one old new w n h stay x ne off = stay x ne (λ g. no_true (sym off ∙ ap (λ o. same_owner o (owner.Widget w)) g ∙ h))
