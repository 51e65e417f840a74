-- What is hunted from one node stands in document order, each once.
use Rattle.std.proofs.Common.{◌≡◌, ℕ, zero, suc, ◌+◌, ◌-◌, ◌<◌, ◌≤◌, List, [], ◌∷◌, ◌++◌, Bool, true, false, not, ◌||◌, refl, sym, ap, ◌∙◌, subst, length, cond, arith, eqb, eqb-true, eq-eqb, Option, Some, None, ◌⊎◌, inl, inr, ⊎_elim}
use Rattle.std.proofs.lemmas.Bool.{or_cases, cases_Bool}
use Rattle.std.proofs.lemmas.List.{append-nil}
use Rattle.std.proofs.lemmas.Grind.{flat_map-append}
use Rattle.std.specs.Prelude.{option_to_list, is_some}
use Rattle.std.specs.List.{filter, flat_map, range_with_len}
use Rattle.code_units.specs.declared.owner.Owner.{Owner}
use Rattle.code_units.specs.declared.owner.Owner.TheVariants as owner
use Rattle.plain_tree.specs.Trees.{height}
use Rattle.tree_ops.specs.Trees.{is_number}
use Rattle.page_tree.specs.declared.page.Page.{Page}
use Rattle.page_tree.specs.Owners.{is_owner, same_owner}
use Rattle.page_tree.specs.Entries.{Entry, at, body, listed, distinct, tree, limit, IsSound}
use Rattle.page_tree.specs.Pages.{nodes, root}
use Rattle.page_tree.specs.Documents.{within, below, is_loose, document}
use Rattle.page_nodes.proofs.Owners.{same_is, is_same}
use Rattle.page_nodes.proofs.Upward.{parent_in}
use Rattle.page_nodes.proofs.Walk.{nearer, some_is_same, without_body, child_lower, number_is}
use Rattle.query_grammar.specs.Finds.{has_number}
use Rattle.query_grammar.proofs.Numbers.{has_first, from_piece, kept_is, none_pass}
use Rattle.query_grammar.proofs.Truths.{no_true, same_truth, and_parts, and_made, not_true, or_left, or_right}
use Rattle.query_walks.specs.Finds.{in_order}
use Rattle.query_walks.specs.Walks.{AreNodes, is_one_of}
use Rattle.query_walks.proofs.Behind.{keeps, kept_passes, to_piece}
use Rattle.query_walks.proofs.Downward.{sound, rooted, within_is, filter_first}
use Rattle.query_walks.proofs.Ordered.{has_listed, has_numbers, up_one, same_filter, pieces, rising}
use Rattle.query_walks.proofs.WithId.{within_through, in_itself, child_within, split, join}

-- ## Pieces

-- no piece has anything
none_all : (f : ℕ → List ℕ) (ns : List ℕ) → ((m : ℕ) → listed m ns ≡ true → f m ≡ []) → flat_map f ns ≡ []
none_all f [] h = refl
none_all f (m ∷ ns) h =
    ap (λ l. l ++ flat_map f ns) (h m (or_left (eqb m m) (listed m ns) (eq-eqb m m refl)))
    ∙ none_all f ns (λ y l. h y (or_right (eqb m y) (listed y ns) l))

-- only the piece of one number has something
only : (f : ℕ → List ℕ) (ns : List ℕ) (c : ℕ) → listed c ns ≡ true → distinct ns ≡ true → ((m : ℕ) → listed m ns ≡ true → (m ≡ c → ⊥) → f m ≡ []) → flat_map f ns ≡ f c
only f [] c l d none = absurd (no_true l)
only f (m ∷ ns) c l d none =
    let parts = and_parts (not (listed m ns)) (distinct ns) d in
    ⊎_elim
    (λ e. let same = eqb-true m c e in
    ap (λ l. f m ++ l) (none_all f ns (λ y g. none y (or_right (eqb m y) (listed y ns) g) (λ ey. no_true (sym (not_true (listed m ns) (parts.0)) ∙ subst (λ z. listed z ns ≡ true) (ey ∙ sym same) g))))
    ∙ append-nil (f m) ∙ ap f same)
    (λ e. ap (λ l. l ++ flat_map f ns) (none m (or_left (eqb m m) (listed m ns) (eq-eqb m m refl)) (λ same. no_true (sym e ∙ eq-eqb m c same)))
    ∙ only f ns c (ap (λ b. b || listed c ns) (sym e) ∙ l) (parts.1) (λ y g. none y (or_right (eqb m y) (listed y ns) g)))
    (cases_Bool (eqb m c))

same_pieces : (f g : ℕ → List ℕ) (ns : List ℕ) → ((n : ℕ) → has_number ns n ≡ true → f n ≡ g n) → flat_map f ns ≡ flat_map g ns
same_pieces f g [] h = refl
same_pieces f g (n ∷ ns) h =
    ap (λ l. l ++ flat_map f ns) (h n (has_first n ns))
    ∙ ap (λ l. g n ++ l) (same_pieces f g ns (λ m e. h m (or_right (eqb m n) (has_number ns m) e)))

one_by_one : (t : ℕ → Bool) (ns : List ℕ) → flat_map (λ n. filter t (n ∷ [])) ns ≡ filter t ns
one_by_one t [] = refl
one_by_one t (n ∷ ns) = ap (λ l. filter t (n ∷ []) ++ l) (one_by_one t ns) ∙ sym (filter_first t n ns)

-- the first number does not pass
passed_over : (t : ℕ → Bool) (n : ℕ) (ns : List ℕ) → (t n ≡ true → ⊥) → filter t (n ∷ ns) ≡ filter t ns
passed_over t n ns never = ⊎_elim
    (λ e. absurd (never e))
    (λ e. ap (λ b. cond b (n ∷ filter t ns) (filter t ns)) e)
    (cases_Bool (t n))

-- of a list, those that are among those that pass a test
among_kept : (t : ℕ → Bool) (ns : List ℕ) → filter (has_number (filter t ns)) ns ≡ filter t ns
among_kept t ns = same_filter (has_number (filter t ns)) t ns (λ x h. same_truth _ _ (kept_passes t ns x) (keeps t ns x h))

-- ## Trees in trees

module _ (k : List Entry) (s : IsSound k) where
  up : (x n : ℕ) → has_number (within k n) x ≡ true → (x ≡ n) ⊎ ((q : ℕ) × ((at k x).parent ≡ Some q) × (has_number (within k n) q ≡ true))
  up x n h = ⊎_elim (λ e. inl e) (λ q. inr (q.0, q.1, has_numbers (tree k n) (q.0) ∙ q.2)) (up_one k s x n (sym (has_numbers (tree k n) x) ∙ h))

  lower : (fuel x n : ℕ) → suc limit - height (tree k x) < fuel → has_number (within k n) x ≡ true → height (tree k x) ≤ height (tree k n)
  lower zero x n lt h = absurd (omega (arith, lt))
  lower (suc fuel) x n lt h = ⊎_elim
      (λ e. let same : height (tree k x) ≡ height (tree k n) = ap (λ y. height (tree k y)) e in omega (arith, same))
      (λ q. omega (arith, child_lower k s (q.0) x (s.upward x (q.0) (q.1)), lower fuel (q.0) n (omega (arith, lt, nearer k s x (q.0) (q.1))) (q.2)))
      (up x n h)

  -- a node is not in the tree of its child
  no_return : (c n : ℕ) → (at k c).parent ≡ Some n → has_number (within k c) n ≡ true → ⊥
  no_return c n u h = omega (arith, child_lower k s n c (s.upward c n u), lower (suc (suc limit - height (tree k n))) n c (omega arith) h)

  child_of : (n c : ℕ) → has_number (at k n).children c ≡ true → (at k c).parent ≡ Some n
  child_of n c h = s.down n c (sym (has_listed c (at k n).children) ∙ h)

  not_below_itself : (x : ℕ) → has_number (below k x) x ≡ true → ⊥
  not_below_itself x h = let c = from_piece (within k) (at k x).children x h in no_return (c.0) x (child_of x (c.0) (c.1)) (c.2)

  -- of two trees that have one node, one is in the other
  chain : (fuel x a b : ℕ) → suc limit - height (tree k x) < fuel → has_number (within k a) x ≡ true → has_number (within k b) x ≡ true → (has_number (within k b) a ≡ true) ⊎ (has_number (within k a) b ≡ true)
  chain zero x a b lt h g = absurd (omega (arith, lt))
  chain (suc fuel) x a b lt h g = ⊎_elim
      (λ e. inl (subst (λ y. has_number (within k b) y ≡ true) e g))
      (λ q. ⊎_elim
      (λ e. inr (subst (λ y. has_number (within k a) y ≡ true) e h))
      (λ r. chain fuel (q.0) a b (omega (arith, lt, nearer k s x (q.0) (q.1))) (q.2) (subst (λ y. has_number (within k b) y ≡ true) (some_is_same (r.0) (q.0) (sym (r.1) ∙ q.1)) (r.2)))
      (up x b g))
      (up x a h)

  pub either_in : (x a b : ℕ) → has_number (within k a) x ≡ true → has_number (within k b) x ≡ true → (has_number (within k b) a ≡ true) ⊎ (has_number (within k a) b ≡ true)
  either_in x a b h g = chain (suc (suc limit - height (tree k x))) x a b (omega arith) h g

  -- the trees of two siblings have no node in common
  siblings : (n c d x : ℕ) → (at k c).parent ≡ Some n → (at k d).parent ≡ Some n → has_number (within k c) x ≡ true → has_number (within k d) x ≡ true → c ≡ d
  siblings n c d x u v h g = ⊎_elim (λ l. one c d u v l) (λ l. sym (one d c v u l)) (either_in x c d h g)
    where
      one : (a b : ℕ) → (at k a).parent ≡ Some n → (at k b).parent ≡ Some n → has_number (within k b) a ≡ true → a ≡ b
      one a b u v l = ⊎_elim
          (λ e. e)
          (λ q. absurd (no_return b n v (subst (λ y. has_number (within k b) y ≡ true) (some_is_same (q.0) n (sym (q.1) ∙ u)) (q.2))))
          (up a b l)

  -- what passes only in the tree of a node
  module _ (t : ℕ → Bool) (a : ℕ) (inside : (x : ℕ) → t x ≡ true → has_number (within k a) x ≡ true) where
    pub apart : (m : ℕ) → ((x : ℕ) → has_number (within k m) x ≡ true → has_number (within k a) x ≡ true → ⊥) → filter t (within k m) ≡ []
    apart m never = none_pass t (within k m) (λ x h. ⊎_elim (λ e. absurd (never x h (inside x e))) (λ e. e) (cases_Bool (t x)))

    -- is found there in every tree that has the node
    around : (fuel n : ℕ) → height (tree k n) < fuel → has_number (within k n) a ≡ true → filter t (within k n) ≡ filter t (within k a)
    around zero n lt h = absurd (omega (arith, lt))
    around (suc fuel) n lt h = ⊎_elim
        (λ e. ap (λ y. filter t (within k y)) (sym (eqb-true a n e)))
        (λ g. let c = from_piece (within k) (at k n).children a g in
        let up : (at k (c.0)).parent ≡ Some n = child_of n (c.0) (c.1) in
        let here : listed (c.0) (at k n).children ≡ true = s.upward (c.0) n up in
        ap (filter t) (within_is k s n)
        ∙ passed_over t n (below k n) (λ e. no_return (c.0) n up (within_through k s n a (c.0) (c.2) (inside n e)))
        ∙ pieces t (within k) (at k n).children
        ∙ only (λ m. filter t (within k m)) (at k n).children (c.0) here (s.once n)
        (λ m l ne. apart m (λ x h2 g2. ne (siblings n m (c.0) x (s.down n m l) up h2 (within_through k s x a (c.0) (c.2) g2))))
        ∙ around fuel (c.0) (omega (arith, lt, child_lower k s n (c.0) here)) (c.2))
        (split k s n a h)

    pub only_there : (n : ℕ) → has_number (within k n) a ≡ true → filter t (within k n) ≡ filter t (within k a)
    only_there n h = around (suc (height (tree k n))) n (omega arith) h

-- ## The owner's trees

module _ (p : Page) (o : Owner) (own : is_owner o ≡ true) where
  -- the root, or the top of a detached tree
  abbrev IsTop : ℕ → Type 0
  IsTop t = (root p o ≡ Some t) ⊎ (is_loose (nodes p) (root p o) o t ≡ true)

  no_root : (t : ℕ) → root p o ≡ Some t → is_loose (nodes p) (root p o) o t ≡ true → ⊥
  no_root t e l = no_true (sym (not_true (is_number t (root p o)) ((and_parts _ _ l).1)) ∙ ap (λ q. is_number t q) e ∙ eq-eqb t t refl)

  -- `body` is the host's root
  root_is_body : (t : ℕ) → t ≡ body → is_loose (nodes p) (root p o) o t ≡ true → root p o ≡ Some t
  root_is_body t e l =
      let mine : (at (nodes p) t).owner ≡ o = same_is (at (nodes p) t).owner o ((and_parts _ _ ((and_parts _ _ l).0)).0) in
      let hosts : (at (nodes p) t).owner ≡ owner.Host = ap (λ y. (at (nodes p) y).owner) e ∙ same_is (at (nodes p) body).owner owner.Host (sound p).host in
      ap (λ q. root p q) (sym mine ∙ hosts) ∙ (rooted p).host ∙ ap (λ y. Some y) (sym e)

  -- no top is in the tree of another
  one_top : (m t : ℕ) → IsTop m → IsTop t → has_number (within (nodes p) t) m ≡ true → m ≡ t
  one_top m t im it h = ⊎_elim (λ e. e) (λ q. by_parent (q.0) (q.1) (q.2)) (up (nodes p) (sound p) m t h)
    where
      in_body : root p o ≡ Some m → t ≡ body → m ≡ t
      in_body e b = some_is_same m t (sym e ∙ ⊎_elim (λ f. f) (λ l. root_is_body t b l) it)

      by_parent : (q : ℕ) → (at (nodes p) m).parent ≡ Some q → has_number (within (nodes p) t) q ≡ true → m ≡ t
      by_parent q u g = ⊎_elim
          (λ e. ⊎_elim
          (λ b. in_body e (eqb-true t body b))
          (λ b. absurd (no_true (sym (without_body (nodes p) (sound p) t (λ same. no_true (sym b ∙ eq-eqb t body same)))
          ∙ sym (has_numbers (tree (nodes p) t) body) ∙ subst (λ y. has_number (within (nodes p) t) y ≡ true) ((rooted p).high o m q own e u) g)))
          (cases_Bool (eqb t body)))
          (λ l. absurd (no_true (sym (ap (λ v. not (is_some v)) u) ∙ (and_parts _ _ ((and_parts _ _ l).0)).1)))
          im

  pub same_top : (x m t : ℕ) → IsTop m → IsTop t → has_number (within (nodes p) m) x ≡ true → has_number (within (nodes p) t) x ≡ true → m ≡ t
  same_top x m t im it h g = ⊎_elim (λ l. one_top m t im it l) (λ l. sym (one_top t m it im l)) (either_in (nodes p) (sound p) x m t h g)

  -- a node of the owner is in the tree of a top
  abbrev HasTop : ℕ → Type 0
  HasTop x = (t : ℕ) × (t < length (nodes p)) × IsTop t × (has_number (within (nodes p) t) x ≡ true)

  has_top : (fuel x : ℕ) → suc limit - height (tree (nodes p) x) < fuel → x < length (nodes p) → (at (nodes p) x).owner ≡ o → HasTop x
  has_top zero x lt is_in mine = absurd (omega (arith, lt))
  has_top (suc fuel) x lt is_in mine =
      by_parent (λ q u e. has_top fuel q (omega (arith, lt, nearer (nodes p) (sound p) x q u)) (parent_in (nodes p) (sound p) x q u) e) (at (nodes p) x).parent refl
    where
      itself : IsTop x → HasTop x
      itself it = (x, is_in, it, in_itself (nodes p) (sound p) x)

      by_root : (at (nodes p) x).parent ≡ None → (b : Bool) → is_number x (root p o) ≡ b → HasTop x
      by_root u true e = itself (inl (number_is x (root p o) e))
      by_root u false e = itself (inr (and_made _ _ (and_made _ _ (is_same (at (nodes p) x).owner o mine) (ap (λ v. not (is_some v)) u)) (ap (λ b. not b) e)))

      under_body : (at (nodes p) x).parent ≡ Some body → (b : Bool) → same_owner (at (nodes p) x).owner owner.Host ≡ b → HasTop x
      under_body u true e =
          let hosts : root p o ≡ Some body = ap (λ q. root p q) (sym mine ∙ same_is (at (nodes p) x).owner owner.Host e) ∙ (rooted p).host in
          (body, (sound p).some, inl hosts, join (nodes p) (sound p) body x (child_within (nodes p) (sound p) x body u))
      under_body u false e = itself (inl (ap (λ q. root p q) (sym mine) ∙ (rooted p).under x u e))

      by_parent : ((q : ℕ) → (at (nodes p) x).parent ≡ Some q → (at (nodes p) q).owner ≡ o → HasTop q) → (u : Option ℕ) → (at (nodes p) x).parent ≡ u → HasTop x
      by_parent above None u = by_root u (is_number x (root p o)) refl
      by_parent above (Some q) u = ⊎_elim
          (λ e. let more = above q u (sym (same_is (at (nodes p) x).owner (at (nodes p) q).owner e) ∙ mine) in
          (more.0, more.1, more.2, within_through (nodes p) (sound p) x q (more.0) (more.3) (join (nodes p) (sound p) q x (child_within (nodes p) (sound p) x q u))))
          (λ e. under_body (u ∙ ap (λ y. Some y) (eqb-true q body e)) (same_owner (at (nodes p) x).owner owner.Host) refl)
          (or_cases (same_owner (at (nodes p) x).owner (at (nodes p) q).owner) (eqb q body) ((sound p).owned x q u))

  -- what passes only in the tree of a node of the owner is found there in the document
  module _ (t : ℕ → Bool) (a : ℕ) (is_in : a < length (nodes p)) (mine : (at (nodes p) a).owner ≡ o) (inside : (x : ℕ) → t x ≡ true → has_number (within (nodes p) a) x ≡ true) where
    abbrev piece : ℕ → List ℕ
    piece n = filter t (within (nodes p) n)

    other_tree : (m q : ℕ) → IsTop m → IsTop q → has_number (within (nodes p) q) a ≡ true → (m ≡ q → ⊥) → piece m ≡ []
    other_tree m q im iq h ne = apart (nodes p) (sound p) t a inside m (λ x f g. ne (same_top x m q im iq f (within_through (nodes p) (sound p) x a q h g)))

    no_piece : (r : Option ℕ) → ((m : ℕ) → r ≡ Some m → piece m ≡ []) → flat_map piece (option_to_list r) ≡ []
    no_piece None h = refl
    no_piece (Some m) h = append-nil (piece m) ∙ h m refl

    abbrev loose : List ℕ
    loose = filter (is_loose (nodes p) (root p o) o) (range_with_len 0 (length (nodes p)))

    of_root : (q : ℕ) → root p o ≡ Some q → has_number (within (nodes p) q) a ≡ true → flat_map piece (option_to_list (root p o)) ++ flat_map piece loose ≡ piece q
    of_root q e h =
        ap (λ l. l ++ flat_map piece loose) (ap (λ r. flat_map piece (option_to_list r)) e ∙ append-nil (piece q))
        ∙ ap (λ l. piece q ++ l) (sym (rising (is_loose (nodes p) (root p o) o) piece (length (nodes p)) 0 [] tt (λ u f. absurd (no_true f))
        (λ u le l f. other_tree u q (inr l) (inl e) h (λ same. no_root u (e ∙ ap (λ y. Some y) (sym same)) l))))
        ∙ append-nil (piece q)

    of_loose : (q : ℕ) → q < length (nodes p) → is_loose (nodes p) (root p o) o q ≡ true → has_number (within (nodes p) q) a ≡ true → flat_map piece (option_to_list (root p o)) ++ flat_map piece loose ≡ piece q
    of_loose q lt l h =
        ap (λ l. l ++ flat_map piece loose) (no_piece (root p o) (λ m e. other_tree m q (inl e) (inr l) h (λ same. no_root q (e ∙ ap (λ y. Some y) same) l)))
        ∙ sym (rising (is_loose (nodes p) (root p o) o) piece (length (nodes p)) 0 (q ∷ []) (omega arith, tt)
        (λ u f. ⊎_elim (λ e. let same = eqb-true u q e in omega (arith, lt, same)) (λ e. absurd (no_true e)) (or_cases (eqb u q) false f))
        (λ u le m f. other_tree u q (inr m) (inr l) h (λ same. no_true (sym f ∙ or_left (eqb u q) false (eq-eqb u q same)))))
        ∙ ap (λ b. flat_map piece (cond b (q ∷ []) [])) l
        ∙ append-nil (piece q)

    pub in_document : filter t (document (nodes p) (root p o) o) ≡ piece a
    in_document =
        let top = has_top (suc (suc limit - height (tree (nodes p) a))) a (omega arith) is_in mine in
        pieces t (within (nodes p)) (option_to_list (root p o) ++ loose)
        ∙ flat_map-append piece (option_to_list (root p o)) loose
        ∙ ⊎_elim (λ e. of_root (top.0) e (top.3)) (λ l. of_loose (top.0) (top.1) l (top.3)) (top.2)
        ∙ only_there (nodes p) (sound p) t a inside (top.0) (top.3)

  -- ## One node

  module _ (a : ℕ) (is_in : a < length (nodes p)) (mine : (at (nodes p) a).owner ≡ o) where
    below_is : (t : ℕ → Bool) → ((x : ℕ) → t x ≡ true → has_number (below (nodes p) a) x ≡ true) → filter t (document (nodes p) (root p o) o) ≡ filter t (below (nodes p) a)
    below_is t inside =
        in_document t a is_in mine (λ x e. join (nodes p) (sound p) a x (inside x e))
        ∙ ap (filter t) (within_is (nodes p) (sound p) a)
        ∙ passed_over t a (below (nodes p) a) (λ e. not_below_itself (nodes p) (sound p) a (inside a e))

    all_below : (t : ℕ → Bool) → in_order (nodes p) (root p o) o (filter t (below (nodes p) a)) ≡ filter t (below (nodes p) a)
    all_below t = below_is (has_number (filter t (below (nodes p) a))) (λ x h. kept_is t (below (nodes p) a) x h) ∙ among_kept t (below (nodes p) a)

    all_children : (t : ℕ → Bool) → in_order (nodes p) (root p o) o (filter t (at (nodes p) a).children) ≡ filter t (at (nodes p) a).children
    all_children t =
        let k = nodes p in
        let cs = (at k a).children in
        let here : ℕ → Bool = has_number (filter t cs) in
        below_is here (λ x h. let c = kept_is t cs x h in to_piece (within k) cs x x c (in_itself k (sound p) x))
        ∙ pieces here (within k) cs
        ∙ same_pieces (λ c. filter here (within k c)) (λ c. filter here (c ∷ [])) cs (λ c h.
        ap (filter here) (within_is k (sound p) c) ∙ filter_first here c (below k c)
        ∙ ap (λ l. filter here (c ∷ []) ++ l) (none_pass here (below k c) (λ x g. ⊎_elim (λ e. absurd (deeper c x h g (kept_is t cs x e))) (λ e. e) (cases_Bool (here x))))
        ∙ append-nil (filter here (c ∷ [])))
        ∙ one_by_one here cs
        ∙ among_kept t cs
      where
        deeper : (c x : ℕ) → has_number (at (nodes p) a).children c ≡ true → has_number (below (nodes p) c) x ≡ true → has_number (at (nodes p) a).children x ≡ true → ⊥
        deeper c x h g f =
            let k = nodes p in
            let d = from_piece (within k) (at k c).children x g in
            let back : has_number (within k c) a ≡ true = ⊎_elim
            (λ e. subst (λ y. has_number (within k c) y ≡ true) (some_is_same c a (sym (child_of k (sound p) c (d.0) (d.1)) ∙ ap (λ y. (at k y).parent) (sym e) ∙ child_of k (sound p) a x f)) (in_itself k (sound p) c))
            (λ q. subst (λ y. has_number (within k c) y ≡ true) (some_is_same (q.0) a (sym (q.1) ∙ child_of k (sound p) a x f)) (join k (sound p) c (q.0) (to_piece (within k) (at k c).children (d.0) (q.0) (d.1) (q.2))))
            (up k (sound p) x (d.0) (d.2)) in
            no_return k (sound p) c a (child_of k (sound p) a c h) back

    single : in_order (nodes p) (root p o) o (a ∷ []) ≡ a ∷ []
    single =
        in_document (has_number (a ∷ [])) a is_in mine (λ x h. ⊎_elim (λ e. subst (λ y. has_number (within (nodes p) a) y ≡ true) (sym (eqb-true x a e)) (in_itself (nodes p) (sound p) a)) (λ e. absurd (no_true e)) (or_cases (eqb x a) false h))
        ∙ ap (filter (has_number (a ∷ []))) (within_is (nodes p) (sound p) a)
        ∙ ap (λ b. cond b (a ∷ filter (has_number (a ∷ [])) (below (nodes p) a)) (filter (has_number (a ∷ [])) (below (nodes p) a))) (has_first a [])
        ∙ ap (λ l. a ∷ l) (none_pass (has_number (a ∷ [])) (below (nodes p) a) (λ x h. ⊎_elim
        (λ e. absurd (⊎_elim
        (λ same. not_below_itself (nodes p) (sound p) a (subst (λ y. has_number (below (nodes p) a) y ≡ true) (eqb-true x a same) h))
        (λ none. no_true none)
        (or_cases (eqb x a) false e)))
        (λ e. e)
        (cases_Bool (has_number (a ∷ []) x))))

  -- ## Lists of one node

  pub one_in_order : (ns : List ℕ) → AreNodes p ns → is_one_of (nodes p) o ns ≡ true → ns ≡ in_order (nodes p) (root p o) o ns
  one_in_order [] inside h = absurd (no_true h)
  one_in_order (n ∷ []) inside h = sym (single n (inside n (has_first n [])) (same_is (at (nodes p) n).owner o h))
  one_in_order (n ∷ m ∷ ns) inside h = absurd (no_true h)

  pub one_below : (t : ℕ → Bool) (ns : List ℕ) → AreNodes p ns → is_one_of (nodes p) o ns ≡ true → flat_map (λ n. filter t (below (nodes p) n)) ns ≡ in_order (nodes p) (root p o) o (flat_map (λ n. filter t (below (nodes p) n)) ns)
  one_below t [] inside h = absurd (no_true h)
  one_below t (n ∷ []) inside h = subst (λ l. l ≡ in_order (nodes p) (root p o) o l) (sym (append-nil (filter t (below (nodes p) n)))) (sym (all_below n (inside n (has_first n [])) (same_is (at (nodes p) n).owner o h) t))
  one_below t (n ∷ m ∷ ns) inside h = absurd (no_true h)

  pub one_children : (t : ℕ → Bool) (ns : List ℕ) → AreNodes p ns → is_one_of (nodes p) o ns ≡ true → flat_map (λ n. filter t (at (nodes p) n).children) ns ≡ in_order (nodes p) (root p o) o (flat_map (λ n. filter t (at (nodes p) n).children) ns)
  one_children t [] inside h = absurd (no_true h)
  one_children t (n ∷ []) inside h = subst (λ l. l ≡ in_order (nodes p) (root p o) o l) (sym (append-nil (filter t (at (nodes p) n).children))) (sym (all_children n (inside n (has_first n [])) (same_is (at (nodes p) n).owner o h) t))
  one_children t (n ∷ m ∷ ns) inside h = absurd (no_true h)
