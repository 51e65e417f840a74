-- What the meaning reads in the trees of a widget, and what the page has.
use Rattle.std.proofs.Common.{◌≡◌, ℕ, ◌+◌, List, [], ◌∷◌, ◌++◌, true, false, refl, sym, ap, ◌∙◌, subst, map, length, cond, eqb, eqb-true, eq-eqb, ◌||◌, ◌&&◌, not, Option, Some, None}
use Rattle.std.specs.Prelude.{is_some, option_to_list}
use Rattle.std.specs.List.{filter, range_with_len}
use Rattle.std.proofs.lemmas.Bool.{and_parts, eqb-false}
use Rattle.code_units.specs.declared.owner.Owner.{Owner}
use Rattle.code_units.specs.declared.owner.Owner.TheVariants as owner
use Rattle.plain_tree.specs.Trees.{Trees, End, Node, beside, joined, marked, height}
use Rattle.tree_ops.specs.Trees.{has, is_number, subtree, tops}
use Rattle.tree_ops.proofs.Tests.{cases, or_left, or_right}
use Rattle.page_nodes.specs.Entries.{Entry, at, body, listed, tree, IsSound}
use Rattle.page_nodes.specs.Moves.{IsDepth}
use Rattle.page_nodes.specs.Owners.{is_owner, same_owner, root_in}
use Rattle.page_nodes.proofs.Owners.{same_is}
use Rattle.page_nodes.proofs.Put.{owner_below}
use Rattle.page_nodes.proofs.Shows.{Shows, none, one_more, shows_one, shows_tree}
use Rattle.page_tree.specs.Documents as page
use Rattle.page_tree.specs.Documents.{is_loose, parent_within}
use Rattle.page_tree.specs.Roots.{IsRooted}
use Rattle.query_grammar.specs.Renumbering.{renumbered}
use Rattle.widget_meaning.specs.Trees.{parent, children, subtrees, first_children, first_label, label_of, depth_of}
use Rattle.page_image.specs.Own.{is_own, own_number, trees_of, page_forest, own_forest}
use Rattle.page_image.proofs.Marked.{AllIn, beside_marked, tops_marked, has_marked, subtree_marked, label_marked, children_marked, parent_marked, in_subtree, depth_marked, height_marked}
use Rattle.page_image.proofs.Numbers.{tell}
use Rattle.page_image.proofs.Shown.{tops_shown, trees_shown, parent_is, parent_there, kept_passes, forest_shown, forest_own, stands, owned_there, own_tree, own_child, own_not_body}
use Rattle.page_image.proofs.Levels.{depth_is}

no_true : false ≡ true → ⊥
no_true e = cc

none_some : (p : ℕ) → ◌≡◌ {A = Option ℕ} None (Some p) → ⊥
none_some p h = cc

some_is : (a b : ℕ) → ◌≡◌ {A = Option ℕ} (Some a) (Some b) → a ≡ b
some_is a b h = cc

nothing_there : (u : Option ℕ) → ((p : ℕ) → u ≡ Some p → ⊥) → u ≡ None
nothing_there None h = refl
nothing_there (Some p) h = absurd (h p refl)

number_is : (n : ℕ) (s : Option ℕ) → is_number n s ≡ true → s ≡ Some n
number_is n None h = absurd (no_true h)
number_is n (Some m) h = ap Some (sym (eqb-true n m h))

is_its_number : (n : ℕ) (s : Option ℕ) → s ≡ Some n → is_number n s ≡ true
is_its_number n s e = ap (is_number n) e ∙ eq-eqb n n refl

no_host : (w : ℕ) (o : Owner) → same_owner o (owner.Widget w) ≡ true → same_owner o owner.Host ≡ false
no_host w owner.Host g = absurd (no_true g)
no_host w (owner.Widget v) g = refl

joined_marked : (f : ℕ → ℕ) (T U : ℕ → Trees ℕ) (ns : List ℕ) → ((n : ℕ) → listed n ns ≡ true → U (f n) ≡ marked f (T n)) → joined (map U (map f ns)) ≡ marked f (joined (map T ns))
joined_marked f T U [] h = refl
joined_marked f T U (n ∷ ns) h =
    ap (λ t. beside t (joined (map U (map f ns)))) (h n (or_left (eqb n n) (listed n ns) (eq-eqb n n refl)))
    ∙ ap (beside (marked f (T n))) (joined_marked f T U ns (λ m l. h m (or_right (eqb n m) (listed m ns) l)))
    ∙ sym (beside_marked f (T n) (joined (map T ns)))

module _ (k : List Entry) (s : IsSound k) (roots : List (Option ℕ)) (rooted : IsRooted k roots) (w : ℕ) (r : Option ℕ) (is : is_owner (owner.Widget w) ≡ true) (root : root_in roots (owner.Widget w) ≡ r) where
  own_tell : (n m : ℕ) → is_own k w n ≡ true → is_own k w m ≡ true → eqb (own_number k w m) (own_number k w n) ≡ eqb m n
  own_tell n m hn hm = tell k w n m hn hm

  all : AllIn (is_own k w) (page_forest k r w)
  all = forest_own k s roots rooted w r is root

  -- the tree of a node
  pub subtree_own : (n : ℕ) → is_own k w n ≡ true → subtree (own_number k w n) (own_forest k r w) ≡ marked (own_number k w) (tree k n)
  subtree_own n h = subtree_marked (own_number k w) (is_own k w) own_tell n h (page_forest k r w) all ∙ ap (marked (own_number k w)) (own_tree k s roots rooted w r is root n h)

  -- its label
  pub label_own : (n : ℕ) → is_own k w n ≡ true → label_of (own_number k w n) (own_forest k r w) ≡ Some (at k n).label
  label_own n h = label_marked (own_number k w) (is_own k w) own_tell n h (page_forest k r w) all ∙ ap first_label (own_tree k s roots rooted w r is root n h)

  -- it stands there
  pub stands_own : (n : ℕ) → is_own k w n ≡ true → has (own_number k w n) (own_forest k r w) ≡ true
  stands_own n h = has_marked (own_number k w) (is_own k w) own_tell n h (page_forest k r w) all ∙ stands k s roots rooted w r is root n h

  -- whether a node stands in the tree of another
  pub has_own : (t n : ℕ) → is_own k w t ≡ true → is_own k w n ≡ true → has (own_number k w t) (subtree (own_number k w n) (own_forest k r w)) ≡ has t (tree k n)
  has_own t n ht hn = ap (has (own_number k w t)) (subtree_own n hn) ∙ has_marked (own_number k w) (is_own k w) own_tell t ht (tree k n) (in_tree (own_tree k s roots rooted w r is root n hn))
    where
      in_tree : subtree n (page_forest k r w) ≡ tree k n → AllIn (is_own k w) (tree k n)
      in_tree e = subst_all e (in_subtree (own_number k w) (is_own k w) own_tell n (page_forest k r w) all)
        where
          subst_all : {a b : Trees ℕ} → a ≡ b → AllIn (is_own k w) a → AllIn (is_own k w) b
          subst_all e h = subst (AllIn (is_own k w)) e h

  pub height_own : (n : ℕ) → is_own k w n ≡ true → height (subtree (own_number k w n) (own_forest k r w)) ≡ height (tree k n)
  height_own n h = ap height (subtree_own n h) ∙ height_marked (own_number k w) (tree k n)

  pub depth_own : (n d : ℕ) → is_own k w n ≡ true → IsDepth k n d → depth_of (own_number k w n) (own_forest k r w) + 1 ≡ d
  depth_own n d h c = ap (λ x. x + 1) (depth_marked (own_number k w) (is_own k w) own_tell n h 0 (page_forest k r w) all) ∙ depth_is k s roots rooted w r is root n d h c

  -- ## Links

  kids : (n : ℕ) → first_children (tree k n) ≡ trees_of k (at k n).children
  kids n = of (tree k n) (shows_tree k s n)
    where
      of : (ts : Trees ℕ) → Shows k (n ∷ []) ts → first_children ts ≡ trees_of k (at k n).children
      of _ (one_more {ks = ks} hk none) = shows_one k (at k n).children _ _ hk (trees_shown k s (at k n).children)

  -- the children are the trees of those that the page names
  pub children_own : (n : ℕ) → is_own k w n ≡ true → children (own_number k w n) (own_forest k r w) ≡ subtrees (map (own_number k w) (at k n).children) (own_forest k r w)
  children_own n h =
      ap first_children (subtree_own n h)
      ∙ first_of (tree k n)
      ∙ ap (marked (own_number k w)) (kids n)
      ∙ sym (joined_marked (own_number k w) (tree k) (λ m. subtree m (own_forest k r w)) (at k n).children (λ c l. subtree_own c (own_child k s w n c h l)))
    where
      first_of : (ts : Trees ℕ) → first_children (marked (own_number k w) ts) ≡ marked (own_number k w) (first_children ts)
      first_of End = refl
      first_of (Node m l ks ts) = refl

  pub tops_own : (n : ℕ) → is_own k w n ≡ true → tops (children (own_number k w n) (own_forest k r w)) ≡ map (own_number k w) (at k n).children
  tops_own n h =
      ap tops (children_marked (own_number k w) (is_own k w) own_tell n h (page_forest k r w) all)
      ∙ tops_marked (own_number k w) (children n (page_forest k r w))
      ∙ ap (λ t. map (own_number k w) (tops (first_children t))) (own_tree k s roots rooted w r is root n h)
      ∙ ap (λ t. map (own_number k w) (tops t)) (kids n)
      ∙ ap (map (own_number k w)) (tops_shown k (at k n).children _ (trees_shown k s (at k n).children))

  -- the parent in the forest
  pub parent_forest : (n : ℕ) → is_own k w n ≡ true → parent n (page_forest k r w) ≡ parent_within k r n
  parent_forest n h = cases (λ b. is_number n r ≡ b → parent n (page_forest k r w) ≡ cond b None (at k n).parent) (is_number n r)
      (λ e _. nothing_there (parent n (page_forest k r w)) (λ p g.
      let q = parent_is k s n p _ _ (forest_shown k s roots rooted w r is root) g in
      own_not_body k s w p (owned_there k s roots rooted w r is root p (q.1)) (rooted.high (owner.Widget w) n p is (root ∙ number_is n r e) (q.0))))
      (λ e _. by_parent e (at k n).parent refl) refl
    where
      no_top : is_number n r ≡ false → (p : ℕ) → (at k n).parent ≡ Some p → listed n (page.tops k r (owner.Widget w)) ≡ false
      no_top e p u = by_root r e
        where
          alone : (o : Option ℕ) (q : ℕ) → o ≡ Some q → not (is_some o) ≡ true → ⊥
          alone None q g x = none_some q g
          alone (Some y) q g x = no_true x

          loose : listed n (filter (is_loose k r (owner.Widget w)) (range_with_len 0 (length k))) ≡ false
          loose = cases (λ b. listed n (filter (is_loose k r (owner.Widget w)) (range_with_len 0 (length k))) ≡ b → b ≡ false) (listed n (filter (is_loose k r (owner.Widget w)) (range_with_len 0 (length k))))
              (λ _ x. absurd (alone (at k n).parent p u ((and_parts (is_own k w n) (not (is_some (at k n).parent)) ((and_parts (is_own k w n && not (is_some (at k n).parent)) (not (is_number n r)) (kept_passes (is_loose k r (owner.Widget w)) n 0 (length k) x)).0)).1)))
              (λ _ _. refl) refl

          by_root : (u : Option ℕ) → is_number n u ≡ false → listed n (option_to_list u ++ filter (is_loose k r (owner.Widget w)) (range_with_len 0 (length k))) ≡ false
          by_root None g = loose
          by_root (Some x) g = ap (λ b. b || listed n (filter (is_loose k r (owner.Widget w)) (range_with_len 0 (length k)))) (turned x g) ∙ loose
            where
              turned : (x : ℕ) → eqb n x ≡ false → eqb x n ≡ false
              turned x g = cases (λ b. eqb x n ≡ b → b ≡ false) (eqb x n) (λ y _. absurd (no_true (sym g ∙ eq-eqb n x (sym (eqb-true x n y))))) (λ _ _. refl) refl

      by_parent : is_number n r ≡ false → (u : Option ℕ) → (at k n).parent ≡ u → parent n (page_forest k r w) ≡ (at k n).parent
      by_parent e None u = nothing_there (parent n (page_forest k r w)) (λ p g. none_some p (sym u ∙ (parent_is k s n p _ _ (forest_shown k s roots rooted w r is root) g).0)) ∙ sym u
      by_parent e (Some p) u = parent_there k s n p _ _ (forest_shown k s roots rooted w r is root) (stands k s roots rooted w r is root n h) (no_top e p u) u ∙ sym u

  pub parent_own : (n : ℕ) → is_own k w n ≡ true → parent (own_number k w n) (own_forest k r w) ≡ renumbered (own_number k w) (parent_within k r n)
  parent_own n h = parent_marked (own_number k w) (is_own k w) own_tell n h (page_forest k r w) all ∙ ap (renumbered (own_number k w)) (parent_forest n h)

  -- the parent is the widget's
  pub owned_parent : (n m : ℕ) → is_own k w n ≡ true → parent_within k r n ≡ Some m → is_own k w m ≡ true
  owned_parent n m h = cases (λ b. is_number n r ≡ b → cond b None (at k n).parent ≡ Some m → is_own k w m ≡ true) (is_number n r)
      (λ e _ g. absurd (none_some m g))
      (λ e _ g. cases (λ b. eqb m body ≡ b → is_own k w m ≡ true) (eqb m body)
      (λ x _. absurd (no_true (sym e ∙ is_its_number n r (sym root ∙ sym (ap (root_in roots) (same_is (at k n).owner (owner.Widget w) h)) ∙ rooted.under n (g ∙ ap Some (eqb-true m body x)) (no_host w (at k n).owner h)))))
      (λ x _. ap (λ o. same_owner o (owner.Widget w)) (sym (owner_below k s n m g (eqb-false m body x))) ∙ h) refl) refl
