-- What the calls of a page do to the trees of one widget.
use Rattle.std.proofs.Common.{◌≡◌, ◌≢◌, ℕ, zero, suc, ◌+◌, ◌<◌, ◌≤◌, List, [], ◌∷◌, Bool, true, false, refl, sym, ap, ◌∙◌, map, length, cond, eqb, eqb-true, ne_eqb, ◌||◌, ◌&&◌, not, arith, Option, Some, None, ⊎_elim}
use Rattle.std.specs.Prelude.{nat_lt, is_some}
use Rattle.std.specs.List.{filter, range_with_len}
use Rattle.std.proofs.lemmas.Bool.{cases_Bool, eqb-false}
use Rattle.std.proofs.lemmas.Bool.Decides.{nat_tests}
use Rattle.code_units.specs.declared.owner.Owner.TheVariants as owner
use Rattle.plain_tree.specs.Trees.{Label, Trees, End, Node, beside, joined, marked}
use Rattle.tree_ops.specs.Trees.{has, without, relabelled, grafted, put_before}
use Rattle.tree_ops.proofs.Tests.{cases, or_left, or_right}
use Rattle.tree_ops.proofs.Absent.{without_off}
use Rattle.page_nodes.specs.Trees.{pruned}
use Rattle.page_nodes.specs.Entries.{Entry, at, minus, limit, read, tree, IsSound}
use Rattle.page_nodes.specs.Moves.{Detached, IsPut, IsRelabelled}
use Rattle.page_nodes.specs.Owners.{is_owner, same_owner, root_in}
use Rattle.page_tree.specs.Roots.{IsRooted}
use Rattle.page_nodes.proofs.Shows.{Shows, none, one_more, shows_one, shows_tree}
use Rattle.page_nodes.proofs.Upward.{has_parent, has_itself}
use Rattle.page_tree.proofs.Agree.{apart}
use Rattle.query_grammar.specs.Renumbering.{renumbered}
use Rattle.page_tree.specs.Documents as page
use Rattle.page_tree.specs.Documents.{is_loose}
use Rattle.widget_meaning.specs.Trees.{among, with_detached, detached, moved}
use Rattle.page_image.specs.Own.{is_own, own_number, trees_of, page_forest, own_forest}
use Rattle.page_image.proofs.Marked.{AllIn, OptionIn, relabelled_marked, moved_marked, detached_marked}
use Rattle.page_image.proofs.Numbers.{tell, order, number_kept}
use Rattle.page_image.proofs.Shown.{forest_own, own_tree, own_is_node}

no_true : false ≡ true → ⊥
no_true e = cc

pub marked_same : (f g : ℕ → ℕ) → ((n : ℕ) → f n ≡ g n) → (ts : Trees ℕ) → marked f ts ≡ marked g ts
marked_same f g h End = refl
marked_same f g h (Node m l ks ts) = ap (λ n. Node n l (marked f ks) (marked f ts)) (h m) ∙ ap (λ t. Node (g m) l t (marked f ts)) (marked_same f g h ks) ∙ ap (Node (g m) l (marked g ks)) (marked_same f g h ts)

-- ## Lists of tops

-- a number among rising ones
abbrev ins : ℕ → List ℕ → List ℕ
ins n [] = n ∷ []
ins n (m ∷ ms) = cond (nat_lt n m) (n ∷ m ∷ ms) (m ∷ ins n ms)

lt_true : (n m : ℕ) → n < m → nat_lt n m ≡ true
lt_true n m h = grind (arith, nat_tests, h)

lt_false : (n m : ℕ) → m < n → nat_lt n m ≡ false
lt_false n m h = grind (arith, nat_tests, h)

pub filter_same : (p q : ℕ → Bool) → ((x : ℕ) → q x ≡ p x) → (xs : List ℕ) → filter q xs ≡ filter p xs
filter_same p q h [] = refl
filter_same p q h (x ∷ xs) = ap (λ b. cond b (x ∷ filter q xs) (filter q xs)) (h x) ∙ ap (λ l. cond (p x) (x ∷ l) l) (filter_same p q h xs)

-- a test that one number fails
pub minus_filter : (p q : ℕ → Bool) (n : ℕ) → ((x : ℕ) → q x ≡ cond (eqb x n) false (p x)) → (xs : List ℕ) → filter q xs ≡ minus n (filter p xs)
minus_filter p q n h [] = refl
minus_filter p q n h (x ∷ xs) =
    ap (λ b. cond b (x ∷ filter q xs) (filter q xs)) (h x)
    ∙ ap (λ l. cond (cond (eqb x n) false (p x)) (x ∷ l) l) (minus_filter p q n h xs)
    ∙ by_tests (p x) (eqb x n) refl
  where
    by_tests : (b c : Bool) → eqb x n ≡ c → cond (cond c false b) (x ∷ minus n (filter p xs)) (minus n (filter p xs)) ≡ minus n (cond b (x ∷ filter p xs) (filter p xs))
    by_tests true true e = sym (ap (λ d. cond (not d) (x ∷ minus n (filter p xs)) (minus n (filter p xs))) e)
    by_tests true false e = sym (ap (λ d. cond (not d) (x ∷ minus n (filter p xs)) (minus n (filter p xs))) e)
    by_tests false true e = refl
    by_tests false false e = refl

module _ (p q : ℕ → Bool) (n : ℕ) where
  high_same : ((x : ℕ) → q x ≡ cond (eqb x n) true (p x)) → (len b : ℕ) → n < b → filter q (range_with_len b len) ≡ filter p (range_with_len b len)
  high_same h zero b lt = refl
  high_same h (suc len) b lt =
      ap (λ c. cond c (b ∷ filter q (range_with_len (b + 1) len)) (filter q (range_with_len (b + 1) len))) (h b ∙ ap (λ c. cond c true (p b)) (ne_eqb b n (λ e. omega (arith, e, lt))))
      ∙ ap (λ l. cond (p b) (b ∷ l) l) (high_same h len (b + 1) (omega (arith, lt)))

  high_minus : (len b : ℕ) → n < b → minus n (filter p (range_with_len b len)) ≡ filter p (range_with_len b len)
  high_minus zero b lt = refl
  high_minus (suc len) b lt = cases (λ c. minus n (cond c (b ∷ filter p (range_with_len (b + 1) len)) (filter p (range_with_len (b + 1) len))) ≡ cond c (b ∷ filter p (range_with_len (b + 1) len)) (filter p (range_with_len (b + 1) len))) (p b)
      (λ _. ap (λ c. cond (not c) (b ∷ minus n (filter p (range_with_len (b + 1) len))) (minus n (filter p (range_with_len (b + 1) len)))) (ne_eqb b n (λ e. omega (arith, e, lt))) ∙ ap (λ l. b ∷ l) (high_minus len (b + 1) (omega (arith, lt))))
      (λ _. high_minus len (b + 1) (omega (arith, lt)))

  high_ins : (len b : ℕ) → n < b → ins n (filter p (range_with_len b len)) ≡ n ∷ filter p (range_with_len b len)
  high_ins zero b lt = refl
  high_ins (suc len) b lt = cases (λ c. ins n (cond c (b ∷ filter p (range_with_len (b + 1) len)) (filter p (range_with_len (b + 1) len))) ≡ n ∷ cond c (b ∷ filter p (range_with_len (b + 1) len)) (filter p (range_with_len (b + 1) len))) (p b)
      (λ _. ap (λ c. cond c (n ∷ b ∷ filter p (range_with_len (b + 1) len)) (b ∷ ins n (filter p (range_with_len (b + 1) len)))) (lt_true n b lt))
      (λ _. high_ins len (b + 1) (omega (arith, lt)))

  -- a test that one number more passes
  ins_filter : ((x : ℕ) → q x ≡ cond (eqb x n) true (p x)) → (len a : ℕ) → a ≤ n → n < a + len → filter q (range_with_len a len) ≡ ins n (minus n (filter p (range_with_len a len)))
  ins_filter h zero a le lt = absurd (omega (arith, le, lt))
  ins_filter h (suc len) a le lt = cases (λ b. eqb a n ≡ b → cond (q a) (a ∷ filter q (range_with_len (a + 1) len)) (filter q (range_with_len (a + 1) len)) ≡ ins n (minus n (cond (p a) (a ∷ filter p (range_with_len (a + 1) len)) (filter p (range_with_len (a + 1) len))))) (eqb a n)
      (λ e _. let same = eqb-true a n e in let up : n < a + 1 = omega (arith, same) in
      ap (λ c. cond c (a ∷ filter q (range_with_len (a + 1) len)) (filter q (range_with_len (a + 1) len))) (h a ∙ ap (λ c. cond c true (p a)) e)
      ∙ ap (λ l. a ∷ l) (high_same h len (a + 1) up)
      ∙ ap (λ y. y ∷ filter p (range_with_len (a + 1) len)) same
      ∙ sym (high_ins len (a + 1) up)
      ∙ ap (ins n) (sym (high_minus len (a + 1) up) ∙ dropped e (p a)))
      (λ e _. let low : a < n = omega (arith, le, eqb-false a n e) in
      ap (λ c. cond c (a ∷ filter q (range_with_len (a + 1) len)) (filter q (range_with_len (a + 1) len))) (h a ∙ ap (λ c. cond c true (p a)) e)
      ∙ ap (λ l. cond (p a) (a ∷ l) l) (ins_filter h len (a + 1) (omega (arith, low)) (omega (arith, lt)))
      ∙ kept e low (p a)) refl
    where
      dropped : eqb a n ≡ true → (b : Bool) → minus n (filter p (range_with_len (a + 1) len)) ≡ minus n (cond b (a ∷ filter p (range_with_len (a + 1) len)) (filter p (range_with_len (a + 1) len)))
      dropped e true = sym (ap (λ c. cond (not c) (a ∷ minus n (filter p (range_with_len (a + 1) len))) (minus n (filter p (range_with_len (a + 1) len)))) e)
      dropped e false = refl

      kept : eqb a n ≡ false → a < n → (b : Bool) → cond b (a ∷ ins n (minus n (filter p (range_with_len (a + 1) len)))) (ins n (minus n (filter p (range_with_len (a + 1) len)))) ≡ ins n (minus n (cond b (a ∷ filter p (range_with_len (a + 1) len)) (filter p (range_with_len (a + 1) len))))
      kept e low true =
          sym (ap (λ c. ins n (cond (not c) (a ∷ minus n (filter p (range_with_len (a + 1) len))) (minus n (filter p (range_with_len (a + 1) len))))) e
          ∙ ap (λ c. cond c (n ∷ a ∷ minus n (filter p (range_with_len (a + 1) len))) (a ∷ ins n (minus n (filter p (range_with_len (a + 1) len))))) (lt_false n a low))
      kept e low false = refl

-- ## Lists of trees

-- what goes tree by tree
through : (g : Trees ℕ → Trees ℕ) (T U : ℕ → Trees ℕ) → End ≡ g End → ((a b : Trees ℕ) → g (beside a b) ≡ beside (g a) (g b)) → ((x : ℕ) → U x ≡ g (T x)) → (ns : List ℕ) → joined (map U ns) ≡ g (joined (map T ns))
through g T U e hom h [] = e
through g T U e hom h (n ∷ ns) = ap (λ t. beside t (joined (map U ns))) (h n) ∙ ap (beside (g (T n))) (through g T U e hom h ns) ∙ sym (hom (T n) (joined (map T ns)))

relabelled_beside : (n : ℕ) (l : Label) (a b : Trees ℕ) → relabelled n l (beside a b) ≡ beside (relabelled n l a) (relabelled n l b)
relabelled_beside n l End b = refl
relabelled_beside n l (Node m v ks a) b = ap (Node m (cond (eqb m n) l v) (relabelled n l ks)) (relabelled_beside n l a b)

pub grafted_beside : (t : ℕ) (s : Option ℕ) (us a b : Trees ℕ) → grafted t s us (beside a b) ≡ beside (grafted t s us a) (grafted t s us b)
grafted_beside t s us End b = refl
grafted_beside t s us (Node m v ks a) b = ap (Node m v (cond (eqb m t) (put_before s us (grafted t s us ks)) (grafted t s us ks))) (grafted_beside t s us a b)

-- without a node: the other tops, each without it
pub without_tops : (k : List Entry) (n : ℕ) (ns : List ℕ) → without n (trees_of k ns) ≡ joined (map (λ x. pruned n (tree k x)) (minus n ns))
without_tops k n [] = refl
without_tops k n (m ∷ ns) = cases (λ b. cond b (without n (trees_of k ns)) (Node m (at k m).label (without n (read k limit (at k m).children)) (without n (trees_of k ns))) ≡ joined (map (λ x. pruned n (tree k x)) (cond (not b) (m ∷ minus n ns) (minus n ns)))) (eqb m n)
    (λ _. without_tops k n ns)
    (λ _. ap (Node m (at k m).label (without n (read k limit (at k m).children))) (without_tops k n ns))

among_tops : (k : List Entry) (n : ℕ) (ns : List ℕ) → among n (at k n).label (read k limit (at k n).children) (trees_of k ns) ≡ trees_of k (ins n ns)
among_tops k n [] = refl
among_tops k n (m ∷ ns) = cases (λ b. cond b (Node n (at k n).label (read k limit (at k n).children) (Node m (at k m).label (read k limit (at k m).children) (trees_of k ns))) (Node m (at k m).label (read k limit (at k m).children) (among n (at k n).label (read k limit (at k n).children) (trees_of k ns))) ≡ trees_of k (cond b (n ∷ m ∷ ns) (m ∷ ins n ns))) (nat_lt n m)
    (λ _. refl)
    (λ _. ap (Node m (at k m).label (read k limit (at k m).children)) (among_tops k n ns))

-- no node is below itself
pub pruned_self : (k : List Entry) → IsSound k → (n : ℕ) → pruned n (tree k n) ≡ tree k n
pruned_self k s n = of (tree k n) (shows_tree k s n)
  where
    below : (p : ℕ) (ks : Trees ℕ) → Shows k (at k n).children ks → has p ks ≡ true → has p (tree k n) ≡ true
    below p ks hk h = ap (has p) (shows_one k (n ∷ []) _ _ (shows_tree k s n) (one_more hk none)) ∙ or_right (eqb n p) (has p ks || false) (or_left (has p ks) false h)

    never : (ks : Trees ℕ) → Shows k (at k n).children ks → has n ks ≡ true → ⊥
    never ks hk h = ⊎_elim
        (λ l. no_true (sym (apart k s n n (s.down n n l)) ∙ has_itself k s n))
        (λ q. no_true (sym (apart k s n (q.0) (q.1)) ∙ below (q.0) ks hk (q.2)))
        (has_parent k s n (at k n).children ks hk h)

    of : (ts : Trees ℕ) → Shows k (n ∷ []) ts → pruned n ts ≡ ts
    of _ (one_more {ks = ks} hk none) = ap (λ t. Node n (at k n).label t End) (without_off n ks (⊎_elim (λ h. absurd (never ks hk h)) (λ h. h) (cases_Bool (has n ks))))

-- ## The calls

module _ (k : List Entry) (s : IsSound k) (roots : List (Option ℕ)) (rooted : IsRooted k roots) (w r : ℕ) (is : is_owner (owner.Widget w) ≡ true) (root : root_in roots (owner.Widget w) ≡ Some r) where
  own_tell : (n m : ℕ) → is_own k w n ≡ true → is_own k w m ≡ true → eqb (own_number k w m) (own_number k w n) ≡ eqb m n
  own_tell n m hn hm = tell k w n m hn hm

  own_order : (n m : ℕ) → is_own k w n ≡ true → is_own k w m ≡ true → nat_lt (own_number k w n) (own_number k w m) ≡ nat_lt n m
  own_order n m hn hm = order k w n m hn hm

  all : AllIn (is_own k w) (page_forest k (Some r) w)
  all = forest_own k s roots rooted w (Some r) is root

  -- ### A label

  pub page_relabelled : (m : List Entry) (n : ℕ) (l : Label) → IsRelabelled k m n l → page_forest m (Some r) w ≡ relabelled n l (page_forest k (Some r) w)
  page_relabelled m n l c =
      ap (λ ns. trees_of m (r ∷ ns)) (ap (λ len. filter (is_loose m (Some r) (owner.Widget w)) (range_with_len 0 len)) c.made ∙ filter_same (is_loose k (Some r) (owner.Widget w)) (is_loose m (Some r) (owner.Widget w)) same (range_with_len 0 (length k)))
      ∙ through (relabelled n l) (tree k) (tree m) refl (relabelled_beside n l) c.trees (page.tops k (Some r) (owner.Widget w))
    where
      same : (x : ℕ) → is_loose m (Some r) (owner.Widget w) x ≡ is_loose k (Some r) (owner.Widget w) x
      same x = ap (λ o. same_owner o (owner.Widget w) && not (is_some (at m x).parent) && not (eqb x r)) (c.owners x) ∙ ap (λ u. same_owner (at k x).owner (owner.Widget w) && not (is_some u) && not (eqb x r)) (c.parents x)

  pub forest_relabelled : (m : List Entry) (n : ℕ) (l : Label) → IsRelabelled k m n l → is_own k w n ≡ true → own_forest m (Some r) w ≡ relabelled (own_number k w n) l (own_forest k (Some r) w)
  forest_relabelled m n l c h =
      marked_same (own_number m w) (own_number k w) (number_kept k m w c.made c.owners) (page_forest m (Some r) w)
      ∙ ap (marked (own_number k w)) (page_relabelled m n l c)
      ∙ sym (relabelled_marked (own_number k w) (is_own k w) own_tell n l h (page_forest k (Some r) w) all)

  -- ### A node is taken from its parent

  pub page_detached : (m : List Entry) (n : ℕ) → Detached k m n → is_own k w n ≡ true → n ≢ r → page_forest m (Some r) w ≡ detached (page_forest k (Some r) w) n
  page_detached m n c h ne =
      ap (λ ns. trees_of m (r ∷ ns)) (ap (λ len. filter (is_loose m (Some r) (owner.Widget w)) (range_with_len 0 len)) c.kept.made
      ∙ ins_filter (is_loose k (Some r) (owner.Widget w)) (is_loose m (Some r) (owner.Widget w)) n loose_now (length k) 0 (omega arith) (omega (arith, own_is_node k w n h)))
      ∙ ap (Node r (at m r).label (read m limit (at m r).children)) (sym (among_tops m n rest))
      ∙ ap (λ t. with_detached (tree m n) t) (sym others)
      ∙ ap (λ t. with_detached t (without n (page_forest k (Some r) w))) (c.trees n ∙ pruned_self k s n ∙ sym (own_tree k s roots rooted w (Some r) is root n h))
    where
      rest : List ℕ
      rest = minus n (filter (is_loose k (Some r) (owner.Widget w)) (range_with_len 0 (length k)))

      away : eqb r n ≡ false
      away = ne_eqb r n (λ e. ne (sym e))

      own_away : (x : ℕ) → eqb x n ≡ true → eqb x r ≡ false
      own_away x e = ne_eqb x r (λ g. ne (sym (eqb-true x n e) ∙ g))

      loose_now : (x : ℕ) → is_loose m (Some r) (owner.Widget w) x ≡ cond (eqb x n) true (is_loose k (Some r) (owner.Widget w) x)
      loose_now x =
          ap (λ o. same_owner o (owner.Widget w) && not (is_some (at m x).parent) && not (eqb x r)) (c.kept.owners x)
          ∙ ap (λ u. same_owner (at k x).owner (owner.Widget w) && not (is_some u) && not (eqb x r)) (c.parents x)
          ∙ cases (λ b. eqb x n ≡ b → (same_owner (at k x).owner (owner.Widget w) && not (is_some (cond b None (at k x).parent)) && not (eqb x r)) ≡ cond b true (is_loose k (Some r) (owner.Widget w) x)) (eqb x n)
          (λ e _. ap (λ b. b && true && not (eqb x r)) (ap (is_own k w) (eqb-true x n e) ∙ h) ∙ ap not (own_away x e))
          (λ e _. refl) refl

      others : without n (page_forest k (Some r) w) ≡ trees_of m (r ∷ rest)
      others =
          without_tops k n (page.tops k (Some r) (owner.Widget w))
          ∙ ap (λ b. joined (map (λ x. pruned n (tree k x)) (cond (not b) (r ∷ rest) rest))) away
          ∙ sym (each (r ∷ rest))
        where
          each : (ns : List ℕ) → trees_of m ns ≡ joined (map (λ x. pruned n (tree k x)) ns)
          each [] = refl
          each (x ∷ ns) = ap (λ t. beside t (trees_of m ns)) (c.trees x) ∙ ap (beside (pruned n (tree k x))) (each ns)

  pub forest_detached : (m : List Entry) (n : ℕ) → Detached k m n → is_own k w n ≡ true → n ≢ r → own_forest m (Some r) w ≡ detached (own_forest k (Some r) w) (own_number k w n)
  forest_detached m n c h ne =
      marked_same (own_number m w) (own_number k w) (number_kept k m w c.kept.made c.kept.owners) (page_forest m (Some r) w)
      ∙ ap (marked (own_number k w)) (page_detached m n c h ne)
      ∙ sym (detached_marked (own_number k w) (is_own k w) own_tell own_order (page_forest k (Some r) w) all n h)

  -- ### A node is put under another

  pub page_put : (m : List Entry) (t : ℕ) (next : Option ℕ) (n : ℕ) → IsPut k m t next n → is_own k w n ≡ true → n ≢ r → page_forest m (Some r) w ≡ moved t next (page_forest k (Some r) w) n
  page_put m t next n c h ne =
      ap (λ ns. trees_of m (r ∷ ns)) (ap (λ len. filter (is_loose m (Some r) (owner.Widget w)) (range_with_len 0 len)) c.kept.made
      ∙ minus_filter (is_loose k (Some r) (owner.Widget w)) (is_loose m (Some r) (owner.Widget w)) n loose_now (range_with_len 0 (length k)))
      ∙ through (grafted t next (tree k n)) (λ x. pruned n (tree k x)) (tree m) refl (grafted_beside t next (tree k n)) (λ x. c.trees x ∙ ap (λ u. grafted t next u (pruned n (tree k x))) (pruned_self k s n)) (r ∷ rest)
      ∙ ap (grafted t next (tree k n)) (sym (without_tops k n (page.tops k (Some r) (owner.Widget w)) ∙ ap (λ b. joined (map (λ x. pruned n (tree k x)) (cond (not b) (r ∷ rest) rest))) away))
      ∙ ap (λ u. grafted t next u (without n (page_forest k (Some r) w))) (sym (own_tree k s roots rooted w (Some r) is root n h))
    where
      rest : List ℕ
      rest = minus n (filter (is_loose k (Some r) (owner.Widget w)) (range_with_len 0 (length k)))

      away : eqb r n ≡ false
      away = ne_eqb r n (λ e. ne (sym e))

      no_and : (b : Bool) → (b && false) ≡ false
      no_and true = refl
      no_and false = refl

      loose_now : (x : ℕ) → is_loose m (Some r) (owner.Widget w) x ≡ cond (eqb x n) false (is_loose k (Some r) (owner.Widget w) x)
      loose_now x =
          ap (λ o. same_owner o (owner.Widget w) && not (is_some (at m x).parent) && not (eqb x r)) (c.kept.owners x)
          ∙ ap (λ u. same_owner (at k x).owner (owner.Widget w) && not (is_some u) && not (eqb x r)) (c.parents x)
          ∙ cases (λ b. (same_owner (at k x).owner (owner.Widget w) && not (is_some (cond b (Some t) (at k x).parent)) && not (eqb x r)) ≡ cond b false (is_loose k (Some r) (owner.Widget w) x)) (eqb x n)
          (λ _. ap (λ b. b && not (eqb x r)) (no_and (same_owner (at k x).owner (owner.Widget w))))
          (λ _. refl)

  pub forest_put : (m : List Entry) (t : ℕ) (next : Option ℕ) (n : ℕ) → IsPut k m t next n → is_own k w t ≡ true → OptionIn (is_own k w) next → is_own k w n ≡ true → n ≢ r → own_forest m (Some r) w ≡ moved (own_number k w t) (renumbered (own_number k w) next) (own_forest k (Some r) w) (own_number k w n)
  forest_put m t next n c ht hs h ne =
      marked_same (own_number m w) (own_number k w) (number_kept k m w c.kept.made c.kept.owners) (page_forest m (Some r) w)
      ∙ ap (marked (own_number k w)) (page_put m t next n c h ne)
      ∙ sym (moved_marked (own_number k w) (is_own k w) own_tell t ht next hs (page_forest k (Some r) w) all n h)
