-- A page as a list of trees: which node stands where.
use Rattle.std.proofs.Common.{◌≡◌, ◌≢◌, ℕ, zero, suc, ◌+◌, ◌-◌, ◌<◌, ◌≤◌, List, [], ◌∷◌, ◌++◌, Bool, true, false, refl, sym, ap, ◌∙◌, length, cond, eqb, eqb-true, eq-eqb, ◌||◌, not, arith, Option, Some, None, ⊎_elim, unwrap_or}
use Rattle.std.specs.Prelude.{nat_eq, is_some, option_to_list}
use Rattle.std.specs.List.{filter, flat_map, list_any, range_with_len}
use Rattle.std.specs.Option.{option_or}
use Rattle.std.proofs.lemmas.Bool.{or_cases, cases_lt, and_parts, and_from, eqb-false}
use Rattle.std.proofs.lemmas.List.{get_or_past, append-nil}
use Rattle.code_units.specs.declared.owner.Owner.{Owner}
use Rattle.code_units.specs.declared.owner.Owner.TheVariants as owner
use Rattle.plain_tree.specs.Trees.{Trees, End, Node, height}
use Rattle.tree_ops.specs.Trees.{numbers, tops, has, tree_of, subtree, is_number}
use Rattle.tree_ops.proofs.Tests.{cases, or_none, or_left, or_right}
use Rattle.page_nodes.specs.Entries.{Entry, at, body, listed, limit, tree, IsSound, no_entry}
use Rattle.page_nodes.specs.Owners.{is_owner, same_owner, root_in}
use Rattle.page_tree.specs.Roots.{IsRooted}
use Rattle.page_nodes.proofs.Shows.{Shows, none, one_more, shows_one, shows_tree, shows_beside}
use Rattle.page_nodes.proofs.Walk.{nearer}
use Rattle.page_nodes.proofs.Put.{owner_below}
use Rattle.page_nodes.proofs.Owners.{same_is}
use Rattle.page_tree.specs.Documents as page
use Rattle.page_tree.specs.Documents.{is_loose, within}
use Rattle.page_image.proofs.Lists.{has_listed}
use Rattle.widget_meaning.specs.Trees.{parent}
use Rattle.page_image.specs.Own.{is_own, trees_of, page_forest}
use Rattle.page_image.proofs.Marked.{AllIn}

no_true : false ≡ true → ⊥
no_true e = cc

true_not_false : (b : Bool) → b ≡ true → b ≡ false → ⊥
true_not_false true h e = cc
true_not_false false h e = cc

number_is : (n : ℕ) (s : Option ℕ) → is_number n s ≡ true → s ≡ Some n
number_is n None h = absurd (no_true h)
number_is n (Some m) h = ap Some (sym (eqb-true n m h))

some_is : (a b : ℕ) → Some a ≡ Some b → a ≡ b
some_is a b h = cc

none_some : (p : ℕ) → ◌≡◌ {A = Option ℕ} None (Some p) → ⊥
none_some p h = cc

pub tops_shown : (k : List Entry) (ns : List ℕ) (ts : Trees ℕ) → Shows k ns ts → tops ts ≡ ns
tops_shown k [] _ none = refl
tops_shown k (n ∷ ns) _ (one_more {ts = ts} hk hs) = ap (λ l. n ∷ l) (tops_shown k ns ts hs)

-- where a node stands not there is no tree of it
no_tree : (n : ℕ) (ts : Trees ℕ) → has n ts ≡ false → tree_of n ts ≡ None
no_tree n End h = refl
no_tree n (Node m l ks ts) h =
    let p = or_none (eqb m n) (has n ks || has n ts) h in
    let q = or_none (has n ks) (has n ts) (p.1) in
    ap (λ b. cond b (Some (Node m l ks End)) (option_or (tree_of n ks) (tree_of n ts))) (p.0)
    ∙ ap (λ o. option_or o (tree_of n ts)) (no_tree n ks (q.0))
    ∙ no_tree n ts (q.1)

-- a top stands there
pub top_stands : (k : List Entry) (n : ℕ) (ns : List ℕ) (ts : Trees ℕ) → Shows k ns ts → listed n ns ≡ true → has n ts ≡ true
top_stands k n [] _ none l = l
top_stands k n (m ∷ ns) _ (one_more {ks = ks} {ts = ts} hk hs) l = ⊎_elim
    (λ e. or_left (eqb m n) (has n ks || has n ts) e)
    (λ e. or_right (eqb m n) (has n ks || has n ts) (or_right (has n ks) (has n ts) (top_stands k n ns ts hs e)))
    (or_cases (eqb m n) (listed n ns) l)

module _ (k : List Entry) (s : IsSound k) where
  -- the numbers of what is shown
  pub numbers_shown : (ns : List ℕ) (ts : Trees ℕ) → Shows k ns ts → numbers ts ≡ flat_map (within k) ns
  numbers_shown [] _ none = refl
  numbers_shown (n ∷ ns) _ (one_more {ks = ks} {ts = ts} hk hs) =
      let here : within k n ≡ n ∷ (numbers ks ++ []) = ap numbers (shows_one k (n ∷ []) _ (Node n (at k n).label ks End) (shows_tree k s n) (one_more hk none)) in
      sym (ap (λ l. l ++ flat_map (within k) ns) (here ∙ ap (λ l. n ∷ l) (append-nil (numbers ks))) ∙ ap (λ l. n ∷ (numbers ks ++ l)) (sym (numbers_shown ns ts hs)))

  -- a node, and what is below it
  pub within_is : (n : ℕ) → within k n ≡ n ∷ page.below k n
  within_is n = of (tree k n) (shows_tree k s n)
    where
      of : (ts : Trees ℕ) → Shows k (n ∷ []) ts → numbers ts ≡ n ∷ page.below k n
      of _ (one_more {ks = ks} hk none) = ap (λ l. n ∷ l) (append-nil (numbers ks) ∙ numbers_shown (at k n).children ks hk)

  pub trees_shown : (ns : List ℕ) → Shows k ns (trees_of k ns)
  trees_shown [] = none
  trees_shown (n ∷ ns) = shows_beside k (n ∷ []) ns (tree k n) (trees_of k ns) (shows_tree k s n) (trees_shown ns)

  -- the tree of a node
  pub found : (n : ℕ) (ns : List ℕ) (ts : Trees ℕ) → Shows k ns ts → has n ts ≡ true → tree_of n ts ≡ Some (tree k n)
  found n [] _ none h = absurd (no_true h)
  found n (m ∷ ns) _ (one_more {ks = ks} {ts = ts} hk hs) h =
      cases (λ b. eqb m n ≡ b → cond b (Some (Node m (at k m).label ks End)) (option_or (tree_of n ks) (tree_of n ts)) ≡ Some (tree k n)) (eqb m n)
      (λ e _. ap Some (shows_one k (m ∷ []) _ _ (one_more hk none) (shows_tree k s m) ∙ ap (tree k) (eqb-true m n e)))
      (λ e _. cases (λ b. has n ks ≡ b → option_or (tree_of n ks) (tree_of n ts) ≡ Some (tree k n)) (has n ks)
      (λ a _. ap (λ o. option_or o (tree_of n ts)) (found n (at k m).children ks hk a))
      (λ a _. ap (λ o. option_or o (tree_of n ts)) (no_tree n ks a) ∙ found n ns ts hs (⊎_elim (λ x. absurd (true_not_false (eqb m n) x e)) (λ x. ⊎_elim (λ y. absurd (true_not_false (has n ks) y a)) (λ y. y) (or_cases (has n ks) (has n ts) x)) (or_cases (eqb m n) (has n ks || has n ts) h))) refl) refl

  pub subtree_is : (n : ℕ) (ns : List ℕ) (ts : Trees ℕ) → Shows k ns ts → has n ts ≡ true → subtree n ts ≡ tree k n
  subtree_is n ns ts hs h = ap (λ o. unwrap_or o End) (found n ns ts hs h)

  -- the parent of a node, where there is one
  pub parent_is : (n p : ℕ) (ns : List ℕ) (ts : Trees ℕ) → Shows k ns ts → parent n ts ≡ Some p → ((at k n).parent ≡ Some p) × (has p ts ≡ true)
  parent_is n p [] _ none h = absurd (none_some p h)
  parent_is n p (m ∷ ns) _ (one_more {ks = ks} {ts = ts} hk hs) h =
      either (parent n ts) (cond (list_any (nat_eq n) (tops ks)) (Some m) (parent n ks)) h
      (λ g. cases (λ b. list_any (nat_eq n) (tops ks) ≡ b → cond b (Some m) (parent n ks) ≡ Some p → ((at k n).parent ≡ Some p) × (has p (Node m (at k m).label ks ts) ≡ true)) (list_any (nat_eq n) (tops ks))
      (λ e _ u. let same = some_is m p u in
      (s.down m n (sym (has_listed n (at k m).children) ∙ ap (λ l. list_any (nat_eq n) l) (sym (tops_shown k (at k m).children ks hk)) ∙ e) ∙ u, or_left (eqb m p) (has p ks || has p ts) (eq-eqb m p same)))
      (λ e _ u. let q = parent_is n p (at k m).children ks hk u in (q.0, or_right (eqb m p) (has p ks || has p ts) (or_left (has p ks) (has p ts) (q.1)))) refl g)
      (λ g. let q = parent_is n p ns ts hs g in (q.0, or_right (eqb m p) (has p ks || has p ts) (or_right (has p ks) (has p ts) (q.1))))
    where
      either : (v u : Option ℕ) → option_or u v ≡ Some p → {A : Type 0} → (u ≡ Some p → A) → (v ≡ Some p → A) → A
      either v None e f g = g e
      either v (Some x) e f g = f e

  -- a node that is no top has its parent there
  pub parent_there : (n p : ℕ) (ns : List ℕ) (ts : Trees ℕ) → Shows k ns ts → has n ts ≡ true → listed n ns ≡ false → (at k n).parent ≡ Some p → parent n ts ≡ Some p
  parent_there n p [] _ none h l u = absurd (no_true h)
  parent_there n p (m ∷ ns) _ (one_more {ks = ks} {ts = ts} hk hs) h l u =
      let d = or_none (eqb m n) (listed n ns) l in
      cases (λ b. list_any (nat_eq n) (tops ks) ≡ b → option_or (cond b (Some m) (parent n ks)) (parent n ts) ≡ Some p) (list_any (nat_eq n) (tops ks))
      (λ e _. sym (s.down m n (among e)) ∙ u)
      (λ e _. ⊎_elim (λ x. absurd (true_not_false (eqb m n) x (d.0))) (λ x. ⊎_elim
      (λ a. ap (λ o. option_or o (parent n ts)) (parent_there n p (at k m).children ks hk a (not_among e) u))
      (λ a. second (parent n ks) refl (parent_there n p ns ts hs a (d.1) u))
      (or_cases (has n ks) (has n ts) x)) (or_cases (eqb m n) (has n ks || has n ts) h)) refl
    where
      same_test : list_any (nat_eq n) (tops ks) ≡ listed n (at k m).children
      same_test = ap (λ l. list_any (nat_eq n) l) (tops_shown k (at k m).children ks hk) ∙ has_listed n (at k m).children

      among : list_any (nat_eq n) (tops ks) ≡ true → listed n (at k m).children ≡ true
      among e = sym same_test ∙ e

      not_among : list_any (nat_eq n) (tops ks) ≡ false → listed n (at k m).children ≡ false
      not_among e = sym same_test ∙ e

      second : (o : Option ℕ) → parent n ks ≡ o → parent n ts ≡ Some p → option_or (parent n ks) (parent n ts) ≡ Some p
      second None e g = ap (λ x. option_or x (parent n ts)) e ∙ g
      second (Some q) e g = ap (λ x. option_or x (parent n ts)) e ∙ (sym ((parent_is n q (at k m).children ks hk e).0) ∙ u)

  -- what hangs under a node that stands there stands there too
  pub child_stands : (n p : ℕ) → (at k n).parent ≡ Some p → (ns : List ℕ) (ts : Trees ℕ) → Shows k ns ts → has p ts ≡ true → has n ts ≡ true
  child_stands n p u [] _ none h = h
  child_stands n p u (m ∷ ns) _ (one_more {ks = ks} {ts = ts} hk hs) h = ⊎_elim
      (λ e. or_right (eqb m n) (has n ks || has n ts) (or_left (has n ks) (has n ts) (top_stands k n (at k m).children ks hk (s.upward n m (u ∙ ap Some (sym (eqb-true m p e)))))))
      (λ x. or_right (eqb m n) (has n ks || has n ts) (⊎_elim
      (λ a. or_left (has n ks) (has n ts) (child_stands n p u (at k m).children ks hk a))
      (λ a. or_right (has n ks) (has n ts) (child_stands n p u ns ts hs a))
      (or_cases (has p ks) (has p ts) x)))
      (or_cases (eqb m p) (has p ks || has p ts) h)

  -- ## Nodes of one widget

  pub own_not_body : (w n : ℕ) → is_own k w n ≡ true → n ≢ body
  own_not_body w n h e = host (at k body).owner (same_is (at k body).owner owner.Host s.host) (ap (λ y. is_own k w y) (sym e) ∙ h)
    where
      host : (o : Owner) → o ≡ owner.Host → same_owner o (owner.Widget w) ≡ true → ⊥
      host o e h = no_true (ap (λ p. same_owner p (owner.Widget w)) (sym e) ∙ h)

  pub own_child : (w m c : ℕ) → is_own k w m ≡ true → listed c (at k m).children ≡ true → is_own k w c ≡ true
  own_child w m c h l = ap (λ o. same_owner o (owner.Widget w)) (owner_below k s c m (s.down m c l) (own_not_body w m h)) ∙ h

  pub all_own : (w : ℕ) (ns : List ℕ) (ts : Trees ℕ) → Shows k ns ts → ((c : ℕ) → listed c ns ≡ true → is_own k w c ≡ true) → AllIn (is_own k w) ts
  all_own w [] _ none own = tt
  all_own w (m ∷ ns) _ (one_more {ks = ks} {ts = ts} hk hs) own =
      let here = own m (or_left (eqb m m) (listed m ns) (eq-eqb m m refl)) in
      (here, all_own w (at k m).children ks hk (λ c l. own_child w m c here l), all_own w ns ts hs (λ c l. own c (or_right (eqb m c) (listed c ns) l)))

pub has_of_all : (p : ℕ → Bool) (n : ℕ) (ts : Trees ℕ) → AllIn p ts → has n ts ≡ true → p n ≡ true
has_of_all p n End h e = absurd (no_true e)
has_of_all p n (Node m l ks ts) h e = ⊎_elim
    (λ x. ap p (sym (eqb-true m n x)) ∙ h.0)
    (λ x. ⊎_elim (has_of_all p n ks (h.1)) (has_of_all p n ts (h.2)) (or_cases (has n ks) (has n ts) x))
    (or_cases (eqb m n) (has n ks || has n ts) e)

-- ## The tops

kept_listed : (p : ℕ → Bool) (n a len : ℕ) → a ≤ n → n < a + len → p n ≡ true → listed n (filter p (range_with_len a len)) ≡ true
kept_listed p n a zero le lt h = absurd (omega (arith, le, lt))
kept_listed p n a (suc len) le lt h = cases (λ b. eqb a n ≡ b → listed n (cond (p a) (a ∷ filter p (range_with_len (a + 1) len)) (filter p (range_with_len (a + 1) len))) ≡ true) (eqb a n)
    (λ e _. ap (λ b. listed n (cond b (a ∷ filter p (range_with_len (a + 1) len)) (filter p (range_with_len (a + 1) len)))) (ap p (eqb-true a n e) ∙ h) ∙ or_left (eqb a n) _ e)
    (λ e _. let more = kept_listed p n (a + 1) len (omega (arith, le, eqb-false a n e)) (omega (arith, lt)) h in
    cases (λ b. listed n (cond b (a ∷ filter p (range_with_len (a + 1) len)) (filter p (range_with_len (a + 1) len))) ≡ true) (p a) (λ _. or_right (eqb a n) _ more) (λ _. more)) refl

pub kept_passes : (p : ℕ → Bool) (n a len : ℕ) → listed n (filter p (range_with_len a len)) ≡ true → p n ≡ true
kept_passes p n a zero h = absurd (no_true h)
kept_passes p n a (suc len) h = cases (λ b. p a ≡ b → listed n (cond b (a ∷ filter p (range_with_len (a + 1) len)) (filter p (range_with_len (a + 1) len))) ≡ true → p n ≡ true) (p a)
    (λ e _ g. ⊎_elim (λ x. ap p (sym (eqb-true a n x)) ∙ e) (kept_passes p n (a + 1) len) (or_cases (eqb a n) _ g))
    (λ e _ g. kept_passes p n (a + 1) len g) refl h

pub own_is_node : (k : List Entry) (w n : ℕ) → is_own k w n ≡ true → n < length k
own_is_node k w n h = ⊎_elim (λ lt. lt) (λ le. absurd (no_true (sym (ap (λ (e : Entry). same_owner e.owner (owner.Widget w)) (get_or_past k n no_entry le)) ∙ h))) (cases_lt n (length k))

module _ (k : List Entry) (s : IsSound k) (roots : List (Option ℕ)) (rooted : IsRooted k roots) (w : ℕ) (r : Option ℕ) (is : is_owner (owner.Widget w) ≡ true) (root : root_in roots (owner.Widget w) ≡ r) where
  loose : List ℕ
  loose = filter (is_loose k r (owner.Widget w)) (range_with_len 0 (length k))

  loose_own : (c : ℕ) → listed c (filter (is_loose k r (owner.Widget w)) (range_with_len 0 (length k))) ≡ true → is_own k w c ≡ true
  loose_own c e = (and_parts _ _ ((and_parts _ _ (kept_passes (is_loose k r (owner.Widget w)) c 0 (length k) e)).0)).0

  pub top_own : (c : ℕ) → listed c (page.tops k r (owner.Widget w)) ≡ true → is_own k w c ≡ true
  top_own c = by_root r root
    where
      by_root : (u : Option ℕ) → root_in roots (owner.Widget w) ≡ u → listed c (option_to_list u ++ filter (is_loose k r (owner.Widget w)) (range_with_len 0 (length k))) ≡ true → is_own k w c ≡ true
      by_root None e l = loose_own c l
      by_root (Some x) e l = ⊎_elim
          (λ g. ap (λ y. is_own k w y) (sym (eqb-true x c g)) ∙ rooted.own (owner.Widget w) x is e)
          (loose_own c)
          (or_cases (eqb x c) _ l)

  pub forest_shown : Shows k (page.tops k r (owner.Widget w)) (page_forest k r w)
  forest_shown = trees_shown k s (page.tops k r (owner.Widget w))

  pub forest_own : AllIn (is_own k w) (page_forest k r w)
  forest_own = all_own k s w _ _ forest_shown top_own

  -- what is listed among the others, and the root itself
  pub among_others : (n : ℕ) → listed n (filter (is_loose k r (owner.Widget w)) (range_with_len 0 (length k))) ≡ true → listed n (page.tops k r (owner.Widget w)) ≡ true
  among_others n l = by_root r
    where
      by_root : (u : Option ℕ) → listed n (option_to_list u ++ filter (is_loose k r (owner.Widget w)) (range_with_len 0 (length k))) ≡ true
      by_root None = l
      by_root (Some x) = or_right (eqb x n) _ l

  pub root_listed : (n : ℕ) → r ≡ Some n → listed n (page.tops k r (owner.Widget w)) ≡ true
  root_listed n e = ap (λ u. listed n (option_to_list u ++ filter (is_loose k r (owner.Widget w)) (range_with_len 0 (length k)))) e ∙ or_left (eqb n n) _ (eq-eqb n n refl)

  top_of : (n : ℕ) → is_own k w n ≡ true → (at k n).parent ≡ None → listed n (page.tops k r (owner.Widget w)) ≡ true
  top_of n h u = cases (λ b. is_number n r ≡ b → listed n (page.tops k r (owner.Widget w)) ≡ true) (is_number n r)
      (λ e _. root_listed n (number_is n r e))
      (λ e _. among_others n (kept_listed (is_loose k r (owner.Widget w)) n 0 (length k) (omega arith) (omega (arith, own_is_node k w n h))
      (and_from _ _ (and_from _ _ h (ap (λ o. not (is_some o)) u)) (ap not e)))) refl

  -- each node of the widget stands in its forest
  climbs : (fuel n : ℕ) → suc limit - height (tree k n) < fuel → is_own k w n ≡ true → has n (page_forest k r w) ≡ true
  climbs zero n lt h = absurd (omega (arith, lt))
  climbs (suc fuel) n lt h = by_parent (climbs fuel) (at k n).parent refl
    where
      by_parent : ((m : ℕ) → suc limit - height (tree k m) < fuel → is_own k w m ≡ true → has m (page_forest k r w) ≡ true) → (u : Option ℕ) → (at k n).parent ≡ u → has n (page_forest k r w) ≡ true
      by_parent again None u = top_stands k n _ _ forest_shown (top_of n h u)
      by_parent again (Some p) u = cases (λ b. eqb p body ≡ b → has n (page_forest k r w) ≡ true) (eqb p body)
          (λ e _. let b : p ≡ body = eqb-true p body e in
          let same : r ≡ Some n = sym root ∙ sym (ap (root_in roots) (same_is (at k n).owner (owner.Widget w) h)) ∙ rooted.under n (u ∙ ap Some b) (no_host (at k n).owner h) in
          top_stands k n _ _ forest_shown (root_listed n same))
          (λ e _. child_stands k s n p u _ _ forest_shown (again p (omega (arith, lt, nearer k s n p u)) (ap (λ o. same_owner o (owner.Widget w)) (sym (owner_below k s n p u (eqb-false p body e))) ∙ h))) refl
        where
          no_host : (o : Owner) → same_owner o (owner.Widget w) ≡ true → same_owner o owner.Host ≡ false
          no_host owner.Host g = absurd (no_true g)
          no_host (owner.Widget v) g = refl

  pub stands : (n : ℕ) → is_own k w n ≡ true → has n (page_forest k r w) ≡ true
  stands n h = climbs (suc (suc limit - height (tree k n))) n (omega arith) h

  -- what stands there is the widget's
  pub owned_there : (n : ℕ) → has n (page_forest k r w) ≡ true → is_own k w n ≡ true
  owned_there n h = has_of_all (is_own k w) n (page_forest k r w) forest_own h

  -- ## What the meaning reads there

  pub own_tree : (n : ℕ) → is_own k w n ≡ true → subtree n (page_forest k r w) ≡ tree k n
  own_tree n h = subtree_is k s n _ _ forest_shown (stands n h)
