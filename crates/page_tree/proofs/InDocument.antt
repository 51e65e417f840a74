-- Each node of an owner stands once in its document.
use Rattle.std.proofs.Common.{◌≡◌, ℕ, zero, suc, ◌+◌, ◌-◌, ◌<◌, List, [], ◌∷◌, ◌++◌, Bool, true, false, refl, sym, ap, ◌∙◌, subst, eqb, eqb-true, eq-eqb, leb, ◌||◌, ◌&&◌, not, cond, arith, length, Some, None, Option, ◌⊎◌, inl, inr, ⊎_elim}
use Rattle.std.specs.Prelude.{is_some}
use Rattle.std.specs.List.{filter, flat_map, range_with_len}
use Rattle.std.proofs.lemmas.Bool.{or_cases, and_parts, and_from, eqb-false, le-leb}
use Rattle.code_units.specs.declared.owner.Owner.{Owner}
use Rattle.code_units.specs.declared.owner.Owner.TheVariants as owner
use Rattle.plain_tree.specs.Trees.{Trees, Node, End, height}
use Rattle.tree_ops.specs.Trees.{has, is_number, numbers}
use Rattle.page_nodes.specs.Entries.{Entry, at, body, listed, distinct, tree, limit, IsSound}
use Rattle.page_nodes.specs.Ids.{rises}
use Rattle.page_nodes.specs.Owners.{is_owner, same_owner, root_in}
use Rattle.page_nodes.proofs.Lists.{cases, or_right}
use Rattle.page_nodes.proofs.Owners.{same_is}
use Rattle.page_nodes.proofs.Rising.{not_below}
use Rattle.page_nodes.proofs.Shows.{Shows, none, one_more, shows_one, shows_tree}
use Rattle.page_nodes.proofs.Upward.{has_parent, has_itself, or_left}
use Rattle.page_nodes.proofs.Walk.{nearer, parent_too, some_is_same, top_not_in, without_body}
use Rattle.page_tree.specs.Documents.{within, is_loose, tops, document}
use Rattle.page_tree.specs.Roots.{IsRooted}
use Rattle.page_tree.proofs.Agree.{apart}

no_true : false ≡ true → ⊥
no_true h = cc

not_off : (b : Bool) → not b ≡ true → b ≡ false
not_off true h = cc
not_off false h = refl

never : (b : Bool) → (b ≡ true → ⊥) → b ≡ false
never true h = absurd (h refl)
never false h = refl

-- ## Lists without repeats

listed-append : (x : ℕ) (a b : List ℕ) → listed x (a ++ b) ≡ (listed x a || listed x b)
listed-append x [] b = refl
listed-append x (y ∷ a) b = ap (λ c. eqb y x || c) (listed-append x a b) ∙ cases (λ c. (c || (listed x a || listed x b)) ≡ ((c || listed x a) || listed x b)) (eqb y x) (λ _. refl) (λ _. refl)

distinct-append : (a b : List ℕ) → distinct a ≡ true → distinct b ≡ true → ((x : ℕ) → listed x a ≡ true → listed x b ≡ false) → distinct (a ++ b) ≡ true
distinct-append [] b da db off = db
distinct-append (x ∷ a) b da db off =
    let p = and_parts (not (listed x a)) (distinct a) da in
    and_from (not (listed x (a ++ b))) (distinct (a ++ b))
    (ap not (listed-append x a b ∙ ap (λ c. c || listed x b) (not_off (listed x a) (p.0)) ∙ off x (or_left (eqb x x) (listed x a) (eq-eqb x x refl))))
    (distinct-append a b (p.1) db (λ y l. off y (or_right (eqb x y) (listed y a) l)))

rising_distinct : (a : ℕ) (xs : List ℕ) → rises a xs ≡ true → distinct xs ≡ true
rising_distinct a [] h = refl
rising_distinct a (m ∷ ms) h =
    let p = and_parts (leb a m) (rises (m + 1) ms) h in
    and_from (not (listed m ms)) (distinct ms) (ap not (not_below (m + 1) m ms (p.1) (omega arith))) (rising_distinct (m + 1) ms (p.1))

filter_listed : (p : ℕ → Bool) (x : ℕ) (xs : List ℕ) → listed x (filter p xs) ≡ true → (listed x xs ≡ true) × (p x ≡ true)
filter_listed p x [] h = absurd (no_true h)
filter_listed p x (y ∷ xs) h =
    cases (λ b. p y ≡ b → listed x (cond b (y ∷ filter p xs) (filter p xs)) ≡ true → ((eqb y x || listed x xs) ≡ true) × (p x ≡ true)) (p y)
    (λ _ e l. ⊎_elim (λ q. (or_left (eqb y x) (listed x xs) q, ap p (sym (eqb-true y x q)) ∙ e)) (λ q. let r = filter_listed p x xs q in (or_right (eqb y x) (listed x xs) (r.0), r.1)) (or_cases (eqb y x) (listed x (filter p xs)) l))
    (λ _ e l. let r = filter_listed p x xs l in (or_right (eqb y x) (listed x xs) (r.0), r.1))
    refl h

filter_distinct : (p : ℕ → Bool) (xs : List ℕ) → distinct xs ≡ true → distinct (filter p xs) ≡ true
filter_distinct p [] d = refl
filter_distinct p (y ∷ xs) d =
    let q = and_parts (not (listed y xs)) (distinct xs) d in
    let rest = filter_distinct p xs (q.1) in
    cases (λ b. distinct (cond b (y ∷ filter p xs) (filter p xs)) ≡ true) (p y)
    (λ _. and_from (not (listed y (filter p xs))) (distinct (filter p xs)) (ap not (off (not_off (listed y xs) (q.0)))) rest)
    (λ _. rest)
  where
    off : listed y xs ≡ false → listed y (filter p xs) ≡ false
    off e = cases (λ b. listed y (filter p xs) ≡ b → b ≡ false) (listed y (filter p xs)) (λ h _. absurd (no_true (sym e ∙ (filter_listed p y xs h).0))) (λ _ _. refl) refl

range_distinct : (a n : ℕ) → distinct (range_with_len a n) ≡ true
range_distinct a n = rising_distinct a (range_with_len a n) (rising a n)
  where
    rising : (b m : ℕ) → rises b (range_with_len b m) ≡ true
    rising b zero = refl
    rising b (suc m) = and_from (leb b b) (rises (b + 1) (range_with_len (b + 1) m)) (le-leb b b (omega arith)) (rising (b + 1) m)

-- ## Nodes of a tree

listed_numbers : (x : ℕ) (ts : Trees ℕ) → listed x (numbers ts) ≡ has x ts
listed_numbers x End = refl
listed_numbers x (Node m l ks ts) = ap (λ b. eqb m x || b) (listed-append x (numbers ks) (numbers ts) ∙ ap (λ b. b || listed x (numbers ts)) (listed_numbers x ks) ∙ ap (λ b. has x ks || b) (listed_numbers x ts))

-- a node of trees stands in the tree of one of their tops
in_some : (k : List Entry) → IsSound k → (x : ℕ) (ns : List ℕ) (ts : Trees ℕ) → Shows k ns ts → has x ts ≡ true → (n : ℕ) × (listed n ns ≡ true) × (has x (tree k n) ≡ true)
in_some k s x [] _ none h = absurd (no_true h)
in_some k s x (n ∷ ns) _ (one_more {ks = ks} {ts = ts} hk hs) h =
    let one : tree k n ≡ Node n (at k n).label ks End = shows_one k (n ∷ []) _ _ (shows_tree k s n) (one_more hk none) in
    ⊎_elim
    (λ e. (n, or_left (eqb n n) (listed n ns) (eq-eqb n n refl), subst (λ y. has y (tree k n) ≡ true) (eqb-true n x e) (has_itself k s n)))
    (λ h2. ⊎_elim
    (λ a. (n, or_left (eqb n n) (listed n ns) (eq-eqb n n refl), ap (has x) one ∙ or_right (eqb n x) (has x ks || false) (or_left (has x ks) false a)))
    (λ a. let q = in_some k s x ns ts hs a in (q.0, or_right (eqb n (q.0)) (listed (q.0) ns) (q.1), q.2))
    (or_cases (has x ks) (has x ts) h2))
    (or_cases (eqb n x) (has x ks || has x ts) h)

-- of two nodes with a node in both trees, one is in the tree of the other
either_above : (fuel : ℕ) (k : List Entry) → IsSound k → (x a b : ℕ) → suc limit - height (tree k x) < fuel → has x (tree k a) ≡ true → has x (tree k b) ≡ true → (has a (tree k b) ≡ true) ⊎ (has b (tree k a) ≡ true)
either_above zero k s x a b lt ha hb = absurd (omega (arith, lt))
either_above (suc fuel) k s x a b lt ha hb = ⊎_elim
    (λ l. ⊎_elim (λ e. inl (subst (λ y. has y (tree k b) ≡ true) (sym (eqb-true a x e)) hb)) (λ e. absurd (no_true e)) (or_cases (eqb a x) false l))
    (λ q. cases (λ c. eqb x b ≡ c → (has a (tree k b) ≡ true) ⊎ (has b (tree k a) ≡ true)) (eqb x b)
    (λ e _. inr (subst (λ y. has y (tree k a) ≡ true) (eqb-true x b e) ha))
    (λ e _. either_above fuel k s (q.0) a b (omega (arith, lt, nearer k s x (q.0) (q.1))) (q.2) (parent_too k s x (q.0) b (q.1) (eqb-false x b e) hb))
    refl)
    (has_parent k s x (a ∷ []) (tree k a) (shows_tree k s a) ha)

-- none of them is in the tree of another
pub record AreApart (k : List Entry) (ns : List ℕ) : Type 0 where
  pub off : (a b : ℕ) → listed a ns ≡ true → listed b ns ≡ true → (a ≡ b → ⊥) → has a (tree k b) ≡ true → ⊥

fewer : (k : List Entry) (n : ℕ) (ns : List ℕ) → AreApart k (n ∷ ns) → AreApart k ns
fewer k n ns h = record { off = λ a b la lb. h.off a b (or_right (eqb n a) (listed a ns) la) (or_right (eqb n b) (listed b ns) lb) }

children_apart : (k : List Entry) → IsSound k → (n : ℕ) → AreApart k (at k n).children
children_apart k s n = record { off = λ a b la lb ne h. no_true (sym (apart k s b n (s.down n b lb)) ∙ parent_too k s a n b (s.down n a la) ne h) }

pub numbers_distinct : (k : List Entry) → IsSound k → (ns : List ℕ) (ts : Trees ℕ) → Shows k ns ts → distinct ns ≡ true → AreApart k ns → distinct (numbers ts) ≡ true
numbers_distinct k s [] _ none d h = refl
numbers_distinct k s (n ∷ ns) _ (one_more {ks = ks} {ts = ts} hk hs) d h =
    let p = and_parts (not (listed n ns)) (distinct ns) d in
    let new : listed n ns ≡ false = not_off (listed n ns) (p.0) in
    let here : listed n (n ∷ ns) ≡ true = or_left (eqb n n) (listed n ns) (eq-eqb n n refl) in
    let one : tree k n ≡ Node n (at k n).label ks End = shows_one k (n ∷ []) _ _ (shows_tree k s n) (one_more hk none) in
    let other : (m : ℕ) → listed m ns ≡ true → n ≡ m → ⊥ = λ m l e. no_true (sym new ∙ subst (λ y. listed y ns ≡ true) (sym e) l) in
    let no_kid : has n ks ≡ true → ⊥ = λ a. let q = in_some k s n (at k n).children ks hk a in no_true (sym (apart k s (q.0) n (s.down n (q.0) (q.1))) ∙ q.2) in
    let no_other : has n ts ≡ true → ⊥ = λ a. let q = in_some k s n ns ts hs a in h.off n (q.0) here (or_right (eqb n (q.0)) (listed (q.0) ns) (q.1)) (other (q.0) (q.1)) (q.2) in
    let no_both : (x : ℕ) → has x ks ≡ true → has x ts ≡ true → ⊥ = λ x a b. let q = in_some k s x ns ts hs b in
    let inside : has x (tree k n) ≡ true = ap (has x) one ∙ or_right (eqb n x) (has x ks || false) (or_left (has x ks) false a) in
    let l = or_right (eqb n (q.0)) (listed (q.0) ns) (q.1) in
    ⊎_elim (λ u. h.off n (q.0) here l (other (q.0) (q.1)) u) (λ u. h.off (q.0) n l here (λ e. other (q.0) (q.1) (sym e)) u) (either_above (suc (suc limit - height (tree k x))) k s x n (q.0) (omega arith) inside (q.2)) in
    and_from (not (listed n (numbers ks ++ numbers ts))) (distinct (numbers ks ++ numbers ts))
    (ap not (listed-append n (numbers ks) (numbers ts) ∙ ap (λ b. b || listed n (numbers ts)) (never (listed n (numbers ks)) (λ e. no_kid (sym (listed_numbers n ks) ∙ e))) ∙ never (listed n (numbers ts)) (λ e. no_other (sym (listed_numbers n ts) ∙ e))))
    (distinct-append (numbers ks) (numbers ts) (numbers_distinct k s (at k n).children ks hk (s.once n) (children_apart k s n)) (numbers_distinct k s ns ts hs (p.1) (fewer k n ns h))
    (λ x l. never (listed x (numbers ts)) (λ e. no_both x (sym (listed_numbers x ks) ∙ l) (sym (listed_numbers x ts) ∙ e))))

-- ## The document

only_one : (u v : ℕ) → listed v (u ∷ []) ≡ true → u ≡ v
only_one u v l = ⊎_elim (λ e. eqb-true u v e) (λ e. absurd (no_true e)) (or_cases (eqb u v) false l)

pub within_distinct : (k : List Entry) → IsSound k → (ns : List ℕ) → distinct ns ≡ true → AreApart k ns → distinct (flat_map (within k) ns) ≡ true
within_distinct k s [] d h = refl
within_distinct k s (n ∷ ns) d h =
    let p = and_parts (not (listed n ns)) (distinct ns) d in
    distinct-append (within k n) (flat_map (within k) ns)
    (numbers_distinct k s (n ∷ []) (tree k n) (shows_tree k s n) refl (alone n))
    (within_distinct k s ns (p.1) (fewer k n ns h))
    (λ x l. never (listed x (flat_map (within k) ns)) (λ e. let q = in_one x ns e in
    let other : n ≡ q.0 → ⊥ = λ u. no_true (sym (not_off (listed n ns) (p.0)) ∙ subst (λ y. listed y ns ≡ true) (sym u) (q.1)) in
    let here = or_left (eqb n n) (listed n ns) (eq-eqb n n refl) in
    let there = or_right (eqb n (q.0)) (listed (q.0) ns) (q.1) in
    ⊎_elim (λ u. h.off n (q.0) here there other u) (λ u. h.off (q.0) n there here (λ v. other (sym v)) u) (either_above (suc (suc limit - height (tree k x))) k s x n (q.0) (omega arith) (sym (listed_numbers x (tree k n)) ∙ l) (q.2))))
  where
    alone : (m : ℕ) → AreApart k (m ∷ [])
    alone m = record { off = λ a b la lb ne hh. ne (sym (only_one m a la) ∙ only_one m b lb) }

    in_one : (x : ℕ) (ms : List ℕ) → listed x (flat_map (within k) ms) ≡ true → (m : ℕ) × (listed m ms ≡ true) × (has x (tree k m) ≡ true)
    in_one x [] e = absurd (no_true e)
    in_one x (m ∷ ms) e = ⊎_elim
        (λ a. (m, or_left (eqb m m) (listed m ms) (eq-eqb m m refl), sym (listed_numbers x (tree k m)) ∙ a))
        (λ a. let q = in_one x ms a in (q.0, or_right (eqb m (q.0)) (listed (q.0) ms) (q.1), q.2))
        (or_cases (listed x (within k m)) (listed x (flat_map (within k) ms)) (sym (listed-append x (within k m) (flat_map (within k) ms)) ∙ e))

-- a top is the root, or it is loose
top_is : (k : List Entry) (r : Option ℕ) (o : Owner) (x : ℕ) → listed x (tops k r o) ≡ true → (r ≡ Some x) ⊎ (is_loose k r o x ≡ true)
top_is k None o x h = inr (filter_listed (is_loose k None o) x (range_with_len 0 (length k)) h).1
top_is k (Some n) o x h = ⊎_elim (λ e. inl (ap (λ y. Some y) (eqb-true n x e))) (λ e. inr (filter_listed (is_loose k (Some n) o) x (range_with_len 0 (length k)) e).1) (or_cases (eqb n x) (listed x (filter (is_loose k (Some n) o) (range_with_len 0 (length k)))) h)

no_some : (u : Option ℕ) → not (is_some u) ≡ true → u ≡ None
no_some None h = refl
no_some (Some n) h = absurd (no_true h)

-- what a loose node is
record IsLoose (k : List Entry) (r : Option ℕ) (o : Owner) (x : ℕ) : Type 0 where
  own : same_owner (at k x).owner o ≡ true
  top : (at k x).parent ≡ None
  other : is_number x r ≡ false

loose_is : (k : List Entry) (r : Option ℕ) (o : Owner) (x : ℕ) → is_loose k r o x ≡ true → IsLoose k r o x
loose_is k r o x h =
    let p = and_parts (same_owner (at k x).owner o && not (is_some (at k x).parent)) (not (is_number x r)) h in
    let q = and_parts (same_owner (at k x).owner o) (not (is_some (at k x).parent)) (p.0) in
    record { own = q.0; top = no_some (at k x).parent (q.1); other = not_off (is_number x r) (p.1) }

tops_distinct : (k : List Entry) (r : Option ℕ) (o : Owner) → distinct (tops k r o) ≡ true
tops_distinct k None o = filter_distinct (is_loose k None o) (range_with_len 0 (length k)) (range_distinct 0 (length k))
tops_distinct k (Some n) o = and_from (not (listed n (filter (is_loose k (Some n) o) (range_with_len 0 (length k))))) (distinct (filter (is_loose k (Some n) o) (range_with_len 0 (length k))))
    (ap not (never (listed n (filter (is_loose k (Some n) o) (range_with_len 0 (length k)))) (λ e. no_true (sym (loose_is k (Some n) o n ((filter_listed (is_loose k (Some n) o) n (range_with_len 0 (length k)) e).1)).other ∙ eq-eqb n n refl))))
    (filter_distinct (is_loose k (Some n) o) (range_with_len 0 (length k)) (range_distinct 0 (length k)))

-- no top is in the tree of another
tops_apart : (k : List Entry) (roots : List (Option ℕ)) → IsSound k → IsRooted k roots → (o : Owner) → is_owner o ≡ true → AreApart k (tops k (root_in roots o) o)
tops_apart k roots s rooted o io = record {
  off = λ a b la lb ne h. ⊎_elim
      (λ root. root_off a b root lb ne h)
      (λ l. top_not_in k s a b (loose_is k (root_in roots o) o a l).top ne h)
      (top_is k (root_in roots o) o a la);
}
  where
    body_is : (b : ℕ) → b ≡ body → is_loose k (root_in roots o) o b ≡ true → ⊥
    body_is b e l =
        let f = loose_is k (root_in roots o) o b l in
        let mine : o ≡ owner.Host = sym (same_is (at k b).owner o f.own) ∙ ap (λ y. (at k y).owner) e ∙ same_is (at k body).owner owner.Host s.host in
        no_true (sym f.other ∙ ap (is_number b) (ap (root_in roots) mine ∙ rooted.host) ∙ eq-eqb b body e)

    root_off : (a b : ℕ) → root_in roots o ≡ Some a → listed b (tops k (root_in roots o) o) ≡ true → (a ≡ b → ⊥) → has a (tree k b) ≡ true → ⊥
    root_off a b root lb ne h = ⊎_elim
        (λ r2. ne (some_is_same a b (sym root ∙ r2)))
        (λ l. ⊎_elim
        (λ e. ⊎_elim (λ u. ne (sym (eqb-true b a u))) (λ u. no_true u) (or_cases (eqb b a) false e))
        (λ q. let p_body = rooted.high o a (q.0) io root (q.1) in
        cases (λ c. eqb b body ≡ c → ⊥) (eqb b body)
        (λ e _. body_is b (eqb-true b body e) l)
        (λ e _. no_true (sym (without_body k s b (eqb-false b body e)) ∙ subst (λ y. has y (tree k b) ≡ true) p_body (q.2)))
        refl)
        (has_parent k s a (b ∷ []) (tree k b) (shows_tree k s b) h))
        (top_is k (root_in roots o) o b lb)

pub document_distinct : (k : List Entry) (roots : List (Option ℕ)) → IsSound k → IsRooted k roots → (o : Owner) → is_owner o ≡ true → distinct (document k (root_in roots o) o) ≡ true
document_distinct k roots s rooted o io = within_distinct k s (tops k (root_in roots o) o) (tops_distinct k (root_in roots o) o) (tops_apart k roots s rooted o io)
