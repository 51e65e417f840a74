-- Nodes in document order.
use Rattle.std.proofs.Common.{◌≡◌, ℕ, zero, suc, ◌+◌, ◌-◌, ◌<◌, ◌≤◌, List, [], ◌∷◌, ◌++◌, Bool, true, false, not, ◌&&◌, ◌||◌, refl, sym, ap, ◌∙◌, subst, length, cond, arith, eqb, eqb-true, eq-eqb, Some, ◌⊎◌, inl, inr, ⊎_elim}
use Rattle.std.proofs.lemmas.Bool.{or_cases, and_parts, cases_Bool, cases_lt}
use Rattle.std.proofs.lemmas.List.{get_or_past}
use Rattle.std.proofs.lemmas.Grind.{flat_map-append}
use Rattle.std.specs.Prelude.{is_some, option_to_list}
use Rattle.std.specs.List.{filter, flat_map, range_with_len}
use Rattle.code_units.specs.declared.owner.Owner.{Owner}
use Rattle.plain_tree.specs.Trees.{Trees, End, Node, height}
use Rattle.page_tree.specs.declared.page.Page.{Page}
use Rattle.tree_ops.specs.Trees.{has}
use Rattle.page_tree.specs.Entries.{Entry, at, listed, tree, limit, IsSound, no_entry}
use Rattle.page_tree.specs.Pages.{nodes, root}
use Rattle.page_nodes.proofs.Shows.{shows_tree}
use Rattle.page_nodes.proofs.Upward.{has_parent, none_some}
use Rattle.page_nodes.proofs.Walk.{nearer}
use Rattle.page_tree.specs.Documents.{within, is_loose, document, tops}
use Rattle.query_walks.specs.Finds.{in_order}
use Rattle.query_grammar.specs.Finds.{has_number}
use Rattle.tree_ops.specs.Trees.{numbers}
use Rattle.query_walks.specs.Walks.{AreNodes, IsClosed, AreTops, RiseFrom}
use Rattle.query_grammar.proofs.Numbers.{has_both, has_first, none_pass}
use Rattle.query_grammar.proofs.Truths.{no_true, or_right}
use Rattle.query_walks.proofs.Downward.{sound, filter-append}

-- ## Numbers in lists

turned : (a b : ℕ) → eqb a b ≡ eqb b a
turned a b = ⊎_elim
    (λ h. h ∙ sym (eq-eqb b a (sym (eqb-true a b h))))
    (λ h. ⊎_elim (λ g. absurd (no_true (sym h ∙ eq-eqb a b (sym (eqb-true b a g))))) (λ g. h ∙ sym g) (cases_Bool (eqb b a)))
    (cases_Bool (eqb a b))

pub has_listed : (n : ℕ) (ns : List ℕ) → has_number ns n ≡ listed n ns
has_listed n [] = refl
has_listed n (m ∷ ns) = ap (λ b. b || has_number ns n) (turned n m) ∙ ap (λ b. eqb m n || b) (has_listed n ns)

pub same_filter : (t u : ℕ → Bool) (ns : List ℕ) → ((n : ℕ) → has_number ns n ≡ true → t n ≡ u n) → filter t ns ≡ filter u ns
same_filter t u [] h = refl
same_filter t u (n ∷ ns) h = ap (λ b. cond b (n ∷ filter t ns) (filter t ns)) (h n (has_first n ns)) ∙ ap (λ l. cond (u n) (n ∷ l) l) (same_filter t u ns (λ m e. h m (or_right (eqb m n) (has_number ns m) e)))

pub pieces : (t : ℕ → Bool) (f : ℕ → List ℕ) (ns : List ℕ) → filter t (flat_map f ns) ≡ flat_map (λ n. filter t (f n)) ns
pieces t f [] = refl
pieces t f (n ∷ ns) = filter-append t (f n) (flat_map f ns) ∙ ap (λ l. filter t (f n) ++ l) (pieces t f ns)

-- ## Numbers in trees

pub has_numbers : (ts : Trees ℕ) (x : ℕ) → has_number (numbers ts) x ≡ has x ts
has_numbers End x = refl
has_numbers (Node m l ks ts) x =
    ap (λ b. b || has_number (numbers ks ++ numbers ts) x) (turned x m)
    ∙ ap (λ b. eqb m x || b) (has_both x (numbers ks) (numbers ts) ∙ ap (λ b. b || has_number (numbers ts) x) (has_numbers ks x) ∙ ap (λ b. has x ks || b) (has_numbers ts x))

-- a node in a tree is its top, or its parent is there
pub up_one : (k : List Entry) → IsSound k → (x n : ℕ) → has x (tree k n) ≡ true → (x ≡ n) ⊎ ((p : ℕ) × ((at k x).parent ≡ Some p) × (has p (tree k n) ≡ true))
up_one k s x n h = ⊎_elim
    (λ l. ⊎_elim (λ e. inl (sym (eqb-true n x e))) (λ e. absurd (no_true e)) (or_cases (eqb n x) false l))
    (λ q. inr q)
    (has_parent k s x (n ∷ []) (tree k n) (shows_tree k s n) h)

-- what has a parent is a node
pub child_is_node : (k : List Entry) (x p : ℕ) → (at k x).parent ≡ Some p → x < length k
child_is_node k x p u = ⊎_elim (λ lt. lt) (λ le. absurd (none_some p (sym (ap (λ (y : Entry). y.parent) (get_or_past k x no_entry le)) ∙ u))) (cases_lt x (length k))

pub in_tree_node : (k : List Entry) → IsSound k → (x n : ℕ) → n < length k → has_number (within k n) x ≡ true → x < length k
in_tree_node k s x n lt h = ⊎_elim
    (λ e. subst (λ y. y < length k) (sym e) lt)
    (λ q. child_is_node k x (q.0) (q.1))
    (up_one k s x n (sym (has_numbers (tree k n) x) ∙ h))

-- ## Sets that have all above

-- what is above a node of the set is in the set
pub climbs : (p : Page) (above : List ℕ) → IsClosed p above → (fuel x n : ℕ) → suc limit - height (tree (nodes p) x) < fuel → has_number above x ≡ true → has x (tree (nodes p) n) ≡ true → has_number above n ≡ true
climbs p above closed zero x n lt marked h = absurd (omega (arith, lt))
climbs p above closed (suc fuel) x n lt marked h = ⊎_elim
    (λ e. subst (λ y. has_number above y ≡ true) e marked)
    (λ q. climbs p above closed fuel (q.0) n (omega (arith, lt, nearer (nodes p) (sound p) x (q.0) (q.1))) (closed x (q.0) marked (q.1)) (q.2))
    (up_one (nodes p) (sound p) x n h)

-- no node of a set stands in a tree that the set does not enter
pub misses_none : (p : Page) (found above : List ℕ) → IsClosed p above → ((n : ℕ) → has_number found n ≡ true → has_number above n ≡ true) → (n : ℕ) → has_number above n ≡ false → filter (has_number found) (within (nodes p) n) ≡ []
misses_none p found above closed more n none = none_pass (has_number found) (within (nodes p) n) (λ x h. ⊎_elim
    (λ f. absurd (no_true (sym none ∙ climbs p above closed (suc (suc limit - height (tree (nodes p) x))) x n (omega arith) (more x f) (sym (has_numbers (tree (nodes p) n) x) ∙ h))))
    (λ f. f)
    (cases_Bool (has_number found x)))

-- ## Tops in order

low : (a b : ℕ) (ts : List ℕ) → a < b → RiseFrom b ts → has_number ts a ≡ false
low a b [] lt r = refl
low a b (t ∷ ts) lt r = ap (λ e. e || has_number ts a) (other a t (omega (arith, lt, r.0))) ∙ low a (t + 1) ts (omega (arith, lt, r.0)) (r.1)
  where
    other : (a t : ℕ) → a < t → eqb a t ≡ false
    other a t lt = ⊎_elim (λ e. let same = eqb-true a t e in absurd (omega (arith, lt, same))) (λ e. e) (cases_Bool (eqb a t))

module _ (L : ℕ → Bool) (G : ℕ → List ℕ) where
  skip : (a : ℕ) (ns : List ℕ) → (L a ≡ true → G a ≡ []) → flat_map G (filter L (a ∷ ns)) ≡ flat_map G (filter L ns)
  skip a ns h = by_test (L a) refl
    where
      by_test : (b : Bool) → L a ≡ b → flat_map G (cond b (a ∷ filter L ns) (filter L ns)) ≡ flat_map G (filter L ns)
      by_test true e = ap (λ l. l ++ flat_map G (filter L ns)) (h e)
      by_test false e = refl

  head_same : (a : ℕ) (ns ms : List ℕ) → flat_map G (filter L ns) ≡ flat_map G (filter L ms) → flat_map G (filter L (a ∷ ns)) ≡ flat_map G (filter L (a ∷ ms))
  head_same a ns ms h = by_test (L a)
    where
      by_test : (b : Bool) → flat_map G (cond b (a ∷ filter L ns) (filter L ns)) ≡ flat_map G (cond b (a ∷ filter L ms) (filter L ms))
      by_test true = ap (λ l. G a ++ l) h
      by_test false = h

  -- numbers that rise, in place of all numbers
  pub rising : (n a : ℕ) (ts : List ℕ) → RiseFrom a ts → ((t : ℕ) → has_number ts t ≡ true → t < a + n) → ((t : ℕ) → a ≤ t → L t ≡ true → has_number ts t ≡ false → G t ≡ []) → flat_map G (filter L ts) ≡ flat_map G (filter L (range_with_len a n))
  rising zero a [] r inside none = refl
  rising zero a (t ∷ ts) r inside none = absurd (omega (arith, r.0, inside t (has_first t ts)))
  rising (suc n) a [] r inside none =
      rising n (a + 1) [] tt (λ t h. absurd (no_true h)) (λ t le. none t (omega (arith, le)))
      ∙ sym (skip a (range_with_len (a + 1) n) (λ l. none a (omega arith) l refl))
  rising (suc n) a (t ∷ ts) r inside none = ⊎_elim
      (λ lt. let high : RiseFrom (a + 1) (t ∷ ts) = (omega (arith, lt), r.1) in
      rising n (a + 1) (t ∷ ts) high (λ u h. omega (arith, inside u h)) (λ u le. none u (omega (arith, le)))
      ∙ sym (skip a (range_with_len (a + 1) n) (λ l. none a (omega arith) l (low a (a + 1) (t ∷ ts) (omega arith) high))))
      (λ le. let e : a ≡ t = omega (arith, le, r.0) in
      subst (λ u. flat_map G (filter L (u ∷ ts)) ≡ flat_map G (filter L (a ∷ range_with_len (a + 1) n))) e
      (head_same a ts (range_with_len (a + 1) n)
      (rising n (a + 1) ts (subst (λ u. RiseFrom (u + 1) ts) (sym e) (r.1))
      (λ u h. omega (arith, inside u (or_right (eqb u t) (has_number ts u) h)))
      (λ u le l h. none u (omega (arith, le)) l (ap (λ b. b || has_number ts u) (apart u t (omega (arith, le, e))) ∙ h)))))
      (cases_lt a t)
    where
      apart : (u t : ℕ) → t < u → eqb u t ≡ false
      apart u t lt = ⊎_elim (λ e. let same = eqb-true u t e in absurd (omega (arith, lt, same))) (λ e. e) (cases_Bool (eqb u t))

and_true : (b : Bool) → (b && true) ≡ b
and_true true = refl
and_true false = refl

-- the top of a detached tree that is none of the tops of a set is not in the set
missed : (p : Page) (o : Owner) (above ts : List ℕ) (t : ℕ) → AreTops p above ts → is_loose (nodes p) (root p o) o t ≡ true → has_number ts t ≡ false → has_number above t ≡ false
missed p o above ts t are_tops l h =
    let alone : not (is_some (at (nodes p) t).parent) ≡ true = (and_parts _ _ ((and_parts _ _ l).0)).1 in
    sym (and_true (has_number above t)) ∙ ap (λ b. has_number above t && b) (sym alone) ∙ sym (are_tops t) ∙ h

-- the trees of the tops of a set have all that is found
pub all_trees : (p : Page) (o : Owner) (found marks above ts : List ℕ) → ((n : ℕ) → has_number marks n ≡ has_number found n) → ((n : ℕ) → has_number above n ≡ false → filter (has_number marks) (within (nodes p) n) ≡ []) → AreNodes p ts → AreTops p above ts → RiseFrom 0 ts →
    filter (has_number marks) (flat_map (within (nodes p)) (option_to_list (root p o) ++ filter (is_loose (nodes p) (root p o) o) ts)) ≡ in_order (nodes p) (root p o) o found
all_trees p o found marks above ts same none inside are_tops rises =
    let k = nodes p in
    let r = root p o in
    let L : ℕ → Bool = λ n. is_loose (nodes p) (root p o) o n in
    let G : ℕ → List ℕ = λ n. filter (has_number marks) (within (nodes p) n) in
    pieces (has_number marks) (within k) (option_to_list r ++ filter L ts)
    ∙ flat_map-append G (option_to_list r) (filter L ts)
    ∙ ap (λ l. flat_map G (option_to_list r) ++ l) (rising L G (length k) 0 ts rises (λ t h. omega (arith, inside t h)) (λ t le l h. none t (missed p o above ts t are_tops l h)))
    ∙ sym (flat_map-append G (option_to_list r) (filter L (range_with_len 0 (length k))))
    ∙ sym (pieces (has_number marks) (within k) (tops k r o))
    ∙ same_filter (has_number marks) (has_number found) (document k r o) (λ n _. same n)

-- ## What is marked on the way up

-- a set that has all above, but for a place
abbrev pub IsClosedBut : Page → List ℕ → ℕ → Type 0
IsClosedBut p ns place = (n m : ℕ) → has_number ns n ≡ true → (at (nodes p) n).parent ≡ Some m → (m ≡ place) ⊎ (has_number ns m ≡ true)

-- what `add` gives: the node is new, or it is there
pub new_mark : (old new : List ℕ) (n : ℕ) (b : Bool) → (b ≡ not (has_number old n)) × (new ≡ cond (has_number old n) old (old ++ n ∷ [])) → b ≡ true → new ≡ old ++ n ∷ []
new_mark old new n b h e = h.1 ∙ ap (λ c. cond c old (old ++ n ∷ [])) (of (has_number old n) (sym (h.0) ∙ e))
  where
    of : (c : Bool) → not c ≡ true → c ≡ false
    of true e = cc
    of false e = refl

pub old_mark : (old new : List ℕ) (n : ℕ) (b : Bool) → (b ≡ not (has_number old n)) × (new ≡ cond (has_number old n) old (old ++ n ∷ [])) → b ≡ false → (new ≡ old) × (has_number old n ≡ true)
old_mark old new n b h e =
    let there : has_number old n ≡ true = of (has_number old n) (sym (h.0) ∙ e) in
    (h.1 ∙ ap (λ c. cond c old (old ++ n ∷ [])) there, there)
  where
    of : (c : Bool) → not c ≡ false → c ≡ true
    of true e = refl
    of false e = cc

pub has_added : (old new : List ℕ) (n : ℕ) (b : Bool) → (b ≡ not (has_number old n)) × (new ≡ cond (has_number old n) old (old ++ n ∷ [])) → (x : ℕ) → has_number new x ≡ (has_number old x || eqb x n)
has_added old new n b h x = ap (λ l. has_number l x) (h.1) ∙ by_test (has_number old n) refl
  where
    or_none : (c : Bool) → (c || false) ≡ c
    or_none true = refl
    or_none false = refl

    and_here : eqb x n ≡ true → has_number old n ≡ true → has_number old x ≡ true
    and_here e there = subst (λ y. has_number old y ≡ true) (sym (eqb-true x n e)) there

    either : (c d : Bool) → (d ≡ true → c ≡ true) → c ≡ (c || d)
    either true d f = refl
    either false true f = f refl
    either false false f = refl

    by_test : (c : Bool) → has_number old n ≡ c → has_number (cond c old (old ++ n ∷ [])) x ≡ (has_number old x || eqb x n)
    by_test true there = either (has_number old x) (eqb x n) (λ e. and_here e there)
    by_test false none = has_both x old (n ∷ []) ∙ ap (λ c. has_number old x || c) (or_none (eqb x n))
