-- How deep a node stands in the trees of its widget.
use Rattle.std.proofs.Common.{◌≡◌, ℕ, zero, suc, ◌+◌, ◌≤◌, ◌<◌, max, List, [], ◌∷◌, ◌++◌, Bool, true, false, refl, sym, ap, ◌∙◌, cond, eqb, eqb-true, eq-eqb, ◌||◌, ◌&&◌, not, arith, Option, ⊎_elim, inr}
use Rattle.std.proofs.lemmas.Bool.{or_cases, and_parts, cases_Bool, cases_lt}
use Rattle.code_units.specs.declared.owner.Owner.TheVariants as owner
use Rattle.plain_tree.specs.Trees.{Trees, End, Node}
use Rattle.tree_ops.specs.Trees.{has, numbers}
use Rattle.tree_ops.proofs.Tests.{cases, or_none, or_left, or_right}
use Rattle.page_nodes.specs.Entries.{Entry, at, body, listed, distinct, tree, IsSound}
use Rattle.page_nodes.specs.Moves.{IsDepth}
use Rattle.page_nodes.specs.Owners.{is_owner, same_owner, root_in}
use Rattle.page_nodes.specs.Trees.{level, deeper}
use Rattle.page_nodes.proofs.Insert.{deeper_pos}
use Rattle.page_nodes.proofs.Put.{other_not_in}
use Rattle.page_nodes.proofs.Shows.{Shows, none, one_more, shows_one, shows_tree}
use Rattle.page_nodes.proofs.Upward.{level_has, level_none}
use Rattle.page_tree.specs.Documents.{document}
use Rattle.page_tree.specs.Roots.{IsRooted}
use Rattle.page_tree.proofs.InDocument.{document_distinct}
use Rattle.widget_meaning.specs.Trees.{depth_below, depth_of}
use Rattle.page_image.specs.Own.{is_own, page_forest}
use Rattle.page_image.proofs.Lists.{has_listed, has_numbers}
use Rattle.page_image.proofs.Shown.{forest_shown, numbers_shown, stands, own_not_body, top_own}

no_true : false ≡ true → ⊥
no_true e = cc

-- ## A node that stands once

-- each number once
abbrev AreOnce : Trees ℕ → Type 0
AreOnce End = Unit {0}
AreOnce (Node m l ks ts) = ((x : ℕ) → has x (Node m l ks End) ≡ true → has x ts ≡ false) × (has m ks ≡ false) × AreOnce ks × AreOnce ts

not_off : (b : Bool) → not b ≡ true → b ≡ false
not_off true h = cc
not_off false h = refl

listed_both : (x : ℕ) (a b : List ℕ) → listed x (a ++ b) ≡ (listed x a || listed x b)
listed_both x [] b = refl
listed_both x (y ∷ a) b = ap (λ c. eqb y x || c) (listed_both x a b) ∙ by_test (eqb y x)
  where
    by_test : (c : Bool) → (c || (listed x a || listed x b)) ≡ ((c || listed x a) || listed x b)
    by_test true = refl
    by_test false = refl

-- what is distinct in two lists
record Parts (a b : List ℕ) : Type 0 where
  first : distinct a ≡ true
  second : distinct b ≡ true
  off : (x : ℕ) → listed x a ≡ true → listed x b ≡ false

parts : (a b : List ℕ) → distinct (a ++ b) ≡ true → Parts a b
parts [] b d = record { first = refl; second = d; off = λ x l. absurd (no_true l) }
parts (y ∷ a) b d =
    let p = and_parts (not (listed y (a ++ b))) (distinct (a ++ b)) d in
    let q = parts a b (p.1) in
    let here = or_none (listed y a) (listed y b) (sym (listed_both y a b) ∙ not_off (listed y (a ++ b)) (p.0)) in
    record {
      first = both (not (listed y a)) (distinct a) (ap not (here.0)) q.first;
      second = q.second;
      off = λ x l. ⊎_elim (λ e. ap (λ z. listed z b) (sym (eqb-true y x e)) ∙ here.1) (q.off x) (or_cases (eqb y x) (listed x a) l);
    }
  where
    both : (c d : Bool) → c ≡ true → d ≡ true → (c && d) ≡ true
    both c d e f = ap (λ z. z && d) e ∙ f

listed_numbers : (x : ℕ) (ts : Trees ℕ) → listed x (numbers ts) ≡ has x ts
listed_numbers x ts = sym (has_listed x (numbers ts)) ∙ has_numbers ts x

once : (ts : Trees ℕ) → distinct (numbers ts) ≡ true → AreOnce ts
once End d = tt
once (Node m l ks ts) d =
    let p = and_parts (not (listed m (numbers ks ++ numbers ts))) (distinct (numbers ks ++ numbers ts)) d in
    let q = parts (numbers ks) (numbers ts) (p.1) in
    let here = or_none (listed m (numbers ks)) (listed m (numbers ts)) (sym (listed_both m (numbers ks) (numbers ts)) ∙ not_off _ (p.0)) in (
      λ x h. ⊎_elim
          (λ e. ap (λ y. has y ts) (sym (eqb-true m x e)) ∙ (sym (listed_numbers m ts) ∙ here.1))
          (λ e. sym (listed_numbers x ts) ∙ q.off x (listed_numbers x ks ∙ right_none (has x ks) e))
          (or_cases (eqb m x) (has x ks || false) h),
      sym (listed_numbers m ks) ∙ here.0,
      once ks q.first,
      once ts q.second,
    )
  where
    right_none : (b : Bool) → (b || false) ≡ true → b ≡ true
    right_none true h = refl
    right_none false h = h

none_deep : (n d : ℕ) (ts : Trees ℕ) → has n ts ≡ false → depth_below d n ts ≡ 0
none_deep n d End h = refl
none_deep n d (Node m l ks ts) h =
    let p = or_none (eqb m n) (has n ks || has n ts) h in
    let q = or_none (has n ks) (has n ts) (p.1) in
    let a : depth_below (d + 1) n ks ≡ 0 = none_deep n (d + 1) ks (q.0) in
    let b : depth_below d n ts ≡ 0 = none_deep n d ts (q.1) in
    ap (λ b. cond b d (depth_below (d + 1) n ks) + depth_below d n ts) (p.0) ∙ omega (arith, a, b)

-- the nodes above it are one fewer than its level
deep_level : (n d : ℕ) (ts : Trees ℕ) → AreOnce ts → has n ts ≡ true → depth_below d n ts + 1 ≡ d + level n ts
deep_level n d End o h = absurd (no_true h)
deep_level n d (Node m l ks ts) o h = cases (λ b. eqb m n ≡ b → cond b d (depth_below (d + 1) n ks) + depth_below d n ts + 1 ≡ d + max (max (cond b 1 0) (deeper (level n ks))) (level n ts)) (eqb m n)
    (λ e _.
    let off : has n ts ≡ false = o.0 n (or_left (eqb m n) (has n ks || false) e) in
    let in_kids : has n ks ≡ false = ap (λ y. has y ks) (sym (eqb-true m n e)) ∙ o.1 in
    let a : depth_below d n ts ≡ 0 = none_deep n d ts off in
    let b : level n ts ≡ 0 = level_none n ts off in
    let c : deeper (level n ks) ≡ 0 = ap deeper (level_none n ks in_kids) in
    omega (arith, a, b, c))
    (λ e _. ⊎_elim
    (λ x. absurd (no_true (sym e ∙ x)))
    (λ x. cases (λ b. has n ks ≡ b → depth_below (d + 1) n ks + depth_below d n ts + 1 ≡ d + max (max 0 (deeper (level n ks))) (level n ts)) (has n ks)
    (λ g _.
    let off : has n ts ≡ false = o.0 n (or_right (eqb m n) (has n ks || false) (or_left (has n ks) false g)) in
    let a : depth_below d n ts ≡ 0 = none_deep n d ts off in
    let b : level n ts ≡ 0 = level_none n ts off in
    let c : deeper (level n ks) ≡ level n ks + 1 = deeper_pos (level n ks) (level_has n ks g) in
    let i : depth_below (d + 1) n ks + 1 ≡ d + 1 + level n ks = deep_level n (d + 1) ks (o.2) g in
    omega (arith, a, b, c, i))
    (λ g _.
    let there : has n ts ≡ true = ⊎_elim (λ y. absurd (no_true (sym g ∙ y))) (λ y. y) (or_cases (has n ks) (has n ts) x) in
    let a : depth_below (d + 1) n ks ≡ 0 = none_deep n (d + 1) ks g in
    let c : deeper (level n ks) ≡ 0 = ap deeper (level_none n ks g) in
    let i : depth_below d n ts + 1 ≡ d + level n ts = deep_level n d ts (o.3) there in
    omega (arith, a, c, i)) refl)
    (or_cases (eqb m n) (has n ks || has n ts) h)) refl

-- ## Levels in a forest

deeper_more : (v : ℕ) → v ≤ deeper v
deeper_more zero = omega arith
deeper_more (suc v) = omega arith

module _ (k : List Entry) (s : IsSound k) where
  -- in the tree of a node that stands there nothing is deeper
  level_within : (n x : ℕ) (ns : List ℕ) (ts : Trees ℕ) → Shows k ns ts → has x ts ≡ true → level n (tree k x) ≤ level n ts
  level_within n x [] _ none h = absurd (no_true h)
  level_within n x (m ∷ ns) _ (one_more {ks = ks} {ts = ts} hk hs) h = ⊎_elim
      (λ e.
      let same : tree k x ≡ Node m (at k m).label ks End = ap (tree k) (sym (eqb-true m x e)) ∙ shows_one k (m ∷ []) _ _ (shows_tree k s m) (one_more hk none) in
      let g : level n (tree k x) ≡ max (max (cond (eqb m n) 1 0) (deeper (level n ks))) 0 = ap (level n) same in
      omega (arith, g))
      (λ y. ⊎_elim
      (λ a. omega (arith, level_within n x (at k m).children ks hk a, deeper_more (level n ks)))
      (λ a. omega (arith, level_within n x ns ts hs a))
      (or_cases (has x ks) (has x ts) y))
      (or_cases (eqb m x) (has x ks || has x ts) h)

  -- nor is it less deep in the trees of tops
  level_tops : (n d : ℕ) → (ns : List ℕ) (ts : Trees ℕ) → Shows k ns ts → ((x : ℕ) → listed x ns ≡ true → level n (tree k x) ≤ d) → level n ts ≤ d
  level_tops n d [] _ none h = omega arith
  level_tops n d (m ∷ ns) _ (one_more {ks = ks} {ts = ts} hk hs) h =
      let same : tree k m ≡ Node m (at k m).label ks End = shows_one k (m ∷ []) _ _ (shows_tree k s m) (one_more hk none) in
      let g : level n (tree k m) ≡ max (max (cond (eqb m n) 1 0) (deeper (level n ks))) 0 = ap (level n) same in
      let a : level n (tree k m) ≤ d = h m (or_left (eqb m m) (listed m ns) (eq-eqb m m refl)) in
      let b : level n ts ≤ d = level_tops n d ns ts hs (λ x l. h x (or_right (eqb m x) (listed x ns) l)) in
      omega (arith, a, b, g)

  -- the level is that in the tree of some top
  level_reached : (n : ℕ) (ns : List ℕ) (ts : Trees ℕ) → Shows k ns ts → 0 < level n ts → (x : ℕ) × (listed x ns ≡ true) × (level n (tree k x) ≡ level n ts)
  level_reached n [] _ none lt = absurd (omega (arith, lt))
  level_reached n (m ∷ ns) _ (one_more {ks = ks} {ts = ts} hk hs) lt =
      let same : tree k m ≡ Node m (at k m).label ks End = shows_one k (m ∷ []) _ _ (shows_tree k s m) (one_more hk none) in
      let g : level n (tree k m) ≡ max (max (cond (eqb m n) 1 0) (deeper (level n ks))) 0 = ap (level n) same in
      ⊎_elim
      (λ more. let q = level_reached n ns ts hs (omega (arith, more)) in (q.0, or_right (eqb m (q.0)) (listed (q.0) ns) (q.1), omega (arith, q.2, more, g)))
      (λ le. (m, or_left (eqb m m) (listed m ns) (eq-eqb m m refl), omega (arith, g, le)))
      (cases_lt (level n (tree k m)) (level n ts))

module _ (k : List Entry) (s : IsSound k) (roots : List (Option ℕ)) (rooted : IsRooted k roots) (w : ℕ) (r : Option ℕ) (is : is_owner (owner.Widget w) ≡ true) (root : root_in roots (owner.Widget w) ≡ r) where
  distinct_forest : distinct (numbers (page_forest k r w)) ≡ true
  distinct_forest =
      ap distinct (numbers_shown k s _ _ (forest_shown k s roots rooted w r is root))
      ∙ ap (λ u. distinct (document k u (owner.Widget w))) (sym root)
      ∙ document_distinct k roots s rooted (owner.Widget w) is

  -- in the tree of a node that is not the widget's there is none of the widget's, but under `body`
  above : (n x : ℕ) → is_own k w n ≡ true → (x ≡ body → ⊥) → has n (tree k x) ≡ true → is_own k w x ≡ true
  above n x h ne there = ⊎_elim (λ e. e) (λ e. absurd (no_true (sym (other_not_in k s n x ne (λ g. no_true (sym e ∙ ap (λ o. same_owner o (owner.Widget w)) g ∙ h))) ∙ there))) (cases_Bool (is_own k w x))

  -- so deep is a node as the meaning reads it
  pub depth_there : (n : ℕ) → is_own k w n ≡ true → IsDepth k n (depth_of n (page_forest k r w) + 1)
  depth_there n h = record { most = most; reached = inr reached }
    where
      same : depth_of n (page_forest k r w) + 1 ≡ 0 + level n (page_forest k r w)
      same = deep_level n 0 (page_forest k r w) (once (page_forest k r w) distinct_forest) (stands k s roots rooted w r is root n h)

      most : (x : ℕ) → (x ≡ body → ⊥) → level n (tree k x) ≤ depth_of n (page_forest k r w) + 1
      most x ne = ⊎_elim
          (λ there. let g : level n (tree k x) ≤ level n (page_forest k r w) = level_within k s n x _ _ (forest_shown k s roots rooted w r is root) (stands k s roots rooted w r is root x (above n x h ne there)) in omega (arith, g, same))
          (λ off. let z : level n (tree k x) ≡ 0 = level_none n (tree k x) off in omega (arith, z))
          (cases_Bool (has n (tree k x)))

      reached : (x : ℕ) × (x ≡ body → ⊥) × (level n (tree k x) ≡ depth_of n (page_forest k r w) + 1)
      reached =
          let q = level_reached k s n _ _ (forest_shown k s roots rooted w r is root) (level_has n (page_forest k r w) (stands k s roots rooted w r is root n h)) in
          (q.0, own_not_body k s w (q.0) (top_own k s roots rooted w r is root (q.0) (q.1)), omega (arith, q.2, same))

  -- the depth that the page tells is that
  pub depth_is : (n d : ℕ) → is_own k w n ≡ true → IsDepth k n d → depth_of n (page_forest k r w) + 1 ≡ d
  depth_is n d h c = omega (arith, less (depth_there n h) c, less c (depth_there n h))
    where
      less : {a b : ℕ} → IsDepth k n a → IsDepth k n b → a ≤ b
      less p q = ⊎_elim (λ e. absurd (own_not_body k s w n h (e.0))) (λ x. omega (arith, x.2, q.most (x.0) (x.1))) p.reached
