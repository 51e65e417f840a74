-- From a node to its parent.
use Rattle.std.proofs.Common.{◌≡◌, ℕ, zero, suc, ◌+◌, ◌<◌, ◌≤◌, max, List, [], ◌∷◌, Bool, true, false, refl, sym, ap, ◌∙◌, subst, eqb, ◌||◌, arith, cond, eqb-true, eq-eqb, Some, None, Option, inl, inr, ◌⊎◌, ⊎_elim, length}
use Rattle.std.proofs.lemmas.Bool.{or_cases, cases_Bool, cases_lt}
use Rattle.std.proofs.lemmas.List.{get_or_past}
use Rattle.plain_tree.specs.Trees.{Trees, End, Node, height}
use Rattle.tree_ops.specs.Trees.{has}
use Rattle.page_nodes.specs.Trees.{deeper, level}
use Rattle.page_nodes.specs.Entries.{Entry, at, body, listed, tree, IsSound, no_entry}
pub use Rattle.tree_ops.proofs.Tests.{or_left}
use Rattle.page_nodes.proofs.Lists.{or_right, or_none}
use Rattle.page_nodes.proofs.Shows.{Shows, none, one_more, shows_tree, shows_one}
use Rattle.page_nodes.proofs.Cut.{deeper_le}
use Rattle.page_nodes.proofs.Insert.{deeper_most, if_most}

pub none_some : (p : ℕ) → ◌≡◌ {A = Option ℕ} None (Some p) → ⊥
none_some p h = cc

none_listed : (n : ℕ) → listed n [] ≡ true → ⊥
none_listed n h = cc

one_if : (b : Bool) → b ≡ true → cond {A = ℕ} b 1 0 ≡ 1
one_if true h = refl
one_if false h = cc

zero_if : (b : Bool) → b ≡ false → cond {A = ℕ} b 1 0 ≡ 0
zero_if true h = cc
zero_if false h = refl

at_most : (v w : ℕ) → v ≤ 1 + w → (o : ℕ) → 1 ≤ max o (deeper w) → deeper v ≤ 1 + max o (deeper w)
at_most v zero a o b = omega (arith, deeper_most v)
at_most v (suc w) a o b = omega (arith, deeper_most v)

-- one tree among several
pub record Among (us ts : Trees ℕ) : Type 0 where
  pub has_too : (t : ℕ) → has t us ≡ true → has t ts ≡ true
  pub lower : height us ≤ height ts
  pub levels : (t : ℕ) → level t us ≤ level t ts

pub among : (k : List Entry) (x : ℕ) (us : Trees ℕ) → Shows k (x ∷ []) us → (ns : List ℕ) (ts : Trees ℕ) → Shows k ns ts → listed x ns ≡ true → Among us ts
among k x us hu [] ts h l = cc
among k x us hu (n ∷ ns) _ (one_more {ks = ks} {ts = ts} hk hs) l =
    ⊎_elim
    (λ e. let same : us ≡ Node n (at k n).label ks End = shows_one k (x ∷ []) us _ hu (subst (λ y. Shows k (y ∷ []) (Node n (at k n).label ks End)) (eqb-true n x e) (one_more hk none)) in
    subst (λ v. Among v (Node n (at k n).label ks ts)) (sym same) (record {
      has_too = λ t h. ⊎_elim (λ a. or_left (eqb n t) (has t ks || has t ts) a) (λ b. or_right (eqb n t) (has t ks || has t ts) (⊎_elim (λ d. or_left (has t ks) (has t ts) d) (λ d. cc) (or_cases (has t ks) false b))) (or_cases (eqb n t) (has t ks || false) h);
      lower = omega arith;
      levels = λ t. omega arith;
    }))
    (λ e. let a = among k x us hu ns ts hs e in record {
      has_too = λ t h. or_right (eqb n t) (has t ks || has t ts) (or_right (has t ks) (has t ts) (a.has_too t h));
      lower = omega (arith, a.lower);
      levels = λ t. omega (arith, a.levels t);
    })
    (or_cases (eqb n x) (listed x ns) l)

-- a node's tree is one of the subtrees of its parent's
pub record Below (us ts : Trees ℕ) : Type 0 where
  pub has_too : (t : ℕ) → has t us ≡ true → has t ts ≡ true
  pub lower : height us + 1 ≤ height ts
  pub levels : (t : ℕ) → deeper (level t us) ≤ level t ts

below : (k : List Entry) (x p : ℕ) (us ts : Trees ℕ) → Shows k (x ∷ []) us → Shows k (p ∷ []) ts → listed x (at k p).children ≡ true → Below us ts
below k x p us _ hu (one_more {ks = ks} {ts = ts} hk hs) l = let a = among k x us hu (at k p).children ks hk l in record {
  has_too = λ t h. or_right (eqb p t) (has t ks || has t ts) (or_left (has t ks) (has t ts) (a.has_too t h));
  lower = omega (arith, a.lower);
  levels = λ t. omega (arith, deeper_le (level t us) (level t ks) (a.levels t));
}

pub below_parent : (k : List Entry) → IsSound k → (x p : ℕ) → (at k x).parent ≡ Some p → Below (tree k x) (tree k p)
below_parent k s x p u = below k x p (tree k x) (tree k p) (shows_tree k s x) (shows_tree k s p) (s.upward x p u)

-- a node in a tree is one of the tops, or its parent is there too
pub has_parent : (k : List Entry) → IsSound k → (x : ℕ) (ns : List ℕ) (ts : Trees ℕ) → Shows k ns ts → has x ts ≡ true → (listed x ns ≡ true) ⊎ ((p : ℕ) × ((at k x).parent ≡ Some p) × (has p ts ≡ true))
has_parent k s x [] _ none h = cc
has_parent k s x (n ∷ ns) _ (one_more {ks = ks} {ts = ts} hk hs) h =
    ⊎_elim (λ e. inl (or_left (eqb n x) (listed x ns) e))
    (λ h2. ⊎_elim
    (λ h3. ⊎_elim
    (λ l. inr (n, s.down n x l, or_left (eqb n n) (has n ks || has n ts) (eq-eqb n n refl)))
    (λ q. inr (q.0, q.1, or_right (eqb n (q.0)) (has (q.0) ks || has (q.0) ts) (or_left (has (q.0) ks) (has (q.0) ts) (q.2))))
    (has_parent k s x (at k n).children ks hk h3))
    (λ h3. ⊎_elim
    (λ l. inl (or_right (eqb n x) (listed x ns) l))
    (λ q. inr (q.0, q.1, or_right (eqb n (q.0)) (has (q.0) ks || has (q.0) ts) (or_right (has (q.0) ks) (has (q.0) ts) (q.2))))
    (has_parent k s x ns ts hs h3))
    (or_cases (has x ks) (has x ts) h2))
    (or_cases (eqb n x) (has x ks || has x ts) h)

pub level_has : (t : ℕ) (ts : Trees ℕ) → has t ts ≡ true → 0 < level t ts
level_has t End h = cc
level_has t (Node m l ks ts) h =
    ⊎_elim (λ e. omega (arith, one_if (eqb m t) e))
    (λ h2. ⊎_elim (λ a. let p = level_has t ks a in omega (arith, deeper_le 1 (level t ks) p)) (λ a. omega (arith, level_has t ts a)) (or_cases (has t ks) (has t ts) h2))
    (or_cases (eqb m t) (has t ks || has t ts) h)

pub level_none : (t : ℕ) (ts : Trees ℕ) → has t ts ≡ false → level t ts ≡ 0
level_none t End h = refl
level_none t (Node m l ks ts) h =
    let p = or_none (eqb m t) (has t ks || has t ts) h in
    let q = or_none (has t ks) (has t ts) (p.1) in
    let b : deeper (level t ks) ≡ 0 = ap deeper (level_none t ks (q.0)) in
    omega (arith, level_none t ts (q.1), zero_if (eqb m t) (p.0), b)

pub level_height : (t : ℕ) (ts : Trees ℕ) → level t ts ≤ height ts
level_height t End = omega arith
level_height t (Node m l ks ts) =
    omega (arith, level_height t ks, level_height t ts, if_most (eqb m t), deeper_most (level t ks))

-- no deeper than one below its parent
pub level_parent : (k : List Entry) → IsSound k → (x p : ℕ) → (at k x).parent ≡ Some p → (ns : List ℕ) (ts : Trees ℕ) → Shows k ns ts → level x ts ≤ 1 + level p ts
level_parent k s x p u [] _ none = omega arith
level_parent k s x p u (n ∷ ns) _ (one_more {ks = ks} {ts = ts} hk hs) =
    let a = level_parent k s x p u (at k n).children ks hk in
    let b = level_parent k s x p u ns ts hs in
    let low : deeper (level x ks) ≤ 1 + max (cond (eqb n p) 1 0) (deeper (level p ks)) =
    ⊎_elim
    (λ h. ⊎_elim
    (λ l. let same : Some n ≡ Some p = sym (s.down n x l) ∙ u in let e : n ≡ p = cc in at_most (level x ks) (level p ks) a (cond (eqb n p) 1 0) (omega (arith, one_if (eqb n p) (eq-eqb n p e))))
    (λ q. let same : Some (q.0) ≡ Some p = sym (q.1) ∙ u in let e : q.0 ≡ p = cc in let pos : 0 < level p ks = level_has p ks (subst (λ y. has y ks ≡ true) e (q.2)) in at_most (level x ks) (level p ks) a (cond (eqb n p) 1 0) (omega (arith, deeper_le 1 (level p ks) pos)))
    (has_parent k s x (at k n).children ks hk h))
    (λ h. let z : deeper (level x ks) ≡ 0 = ap deeper (level_none x ks h) in omega arith)
    (cases_Bool (has x ks)) in
    omega (arith, low, a, b, if_most (eqb n x))

-- what has a node has its children
pub child_has : (k : List Entry) → IsSound k → (x p : ℕ) → (at k x).parent ≡ Some p → (ns : List ℕ) (ts : Trees ℕ) → Shows k ns ts → has p ts ≡ true → has x ts ≡ true
child_has k s x p u [] _ none h = cc
child_has k s x p u (n ∷ ns) _ (one_more {ks = ks} {ts = ts} hk hs) h =
    ⊎_elim
    (λ e. or_right (eqb n x) (has x ks || has x ts) (or_left (has x ks) (has x ts) ((among k x (tree k x) (shows_tree k s x) (at k n).children ks hk (subst (λ y. listed x (at k y).children ≡ true) (sym (eqb-true n p e)) (s.upward x p u))).has_too x (itself (tree k x) (shows_tree k s x)))))
    (λ h2. or_right (eqb n x) (has x ks || has x ts) (⊎_elim
    (λ a. or_left (has x ks) (has x ts) (child_has k s x p u (at k n).children ks hk a))
    (λ a. or_right (has x ks) (has x ts) (child_has k s x p u ns ts hs a))
    (or_cases (has p ks) (has p ts) h2)))
    (or_cases (eqb n p) (has p ks || has p ts) h)
  where
    itself : (us : Trees ℕ) → Shows k (x ∷ []) us → has x us ≡ true
    itself _ (one_more {ks = ls} {ts = us} hl hu) = or_left (eqb x x) (has x ls || has x us) (eq-eqb x x refl)

-- where nothing but `body` is above, the node is a top in each tree without `body`
pub level_top : (k : List Entry) → IsSound k → (x : ℕ) → ((p : ℕ) → (at k x).parent ≡ Some p → p ≡ body) → (ns : List ℕ) (ts : Trees ℕ) → Shows k ns ts → has body ts ≡ false → level x ts ≤ 1
level_top k s x above [] _ none h = omega arith
level_top k s x above (n ∷ ns) _ (one_more {ks = ks} {ts = ts} hk hs) h =
    let p = or_none (eqb n body) (has body ks || has body ts) h in
    let q = or_none (has body ks) (has body ts) (p.1) in
    let b = level_top k s x above ns ts hs (q.1) in
    let z : deeper (level x ks) ≡ 0 =
    ⊎_elim
    (λ e. absurd (⊎_elim
    (λ l. true_false (sym (eq-eqb n body (above n (s.down n x l))) ∙ p.0))
    (λ r. true_false (sym (r.2) ∙ ap (λ y. has y ks) (above (r.0) (r.1)) ∙ q.0))
    (has_parent k s x (at k n).children ks hk e)))
    (λ e. ap deeper (level_none x ks e))
    (cases_Bool (has x ks)) in
    omega (arith, z, b, if_most (eqb n x))
  where
    true_false : true ≡ false → ⊥
    true_false e = cc

-- a parent is a node
pub parent_in : (k : List Entry) → IsSound k → (n p : ℕ) → (at k n).parent ≡ Some p → p < length k
parent_in k s n p u = ⊎_elim (λ lt. lt) (λ le. absurd (none_listed n (subst (λ y. listed n y.children ≡ true) (get_or_past k p no_entry le) (s.upward n p u)))) (cases_lt p (length k))

-- a node is in its tree
pub has_itself : (k : List Entry) → IsSound k → (n : ℕ) → has n (tree k n) ≡ true
has_itself k s n = itself (tree k n) (shows_tree k s n)
  where
    itself : (ts : Trees ℕ) → Shows k (n ∷ []) ts → has n ts ≡ true
    itself _ (one_more {ks = ks} {ts = ts} hk hs) = or_left (eqb n n) (has n ks || has n ts) (eq-eqb n n refl)
