-- How high trees are, how deep a node stands, and what moves do to both.
use Rattle.std.proofs.Common.{◌≡◌, ℕ, suc, ◌+◌, ◌<◌, ◌≤◌, max, Bool, true, false, refl, sym, ap, ◌∙◌, subst, cond, eqb, ◌||◌, Option, Some, None, inl, inr, arith}
use Rattle.std.specs.Prelude.{nat_lt}
use Rattle.std.specs.Option.{option_or, unwrap_or}
use Rattle.plain_tree.specs.Trees.{Label, End, Node, beside, height, size}
use Rattle.tree_ops.specs.Trees.{has, tree_of, subtree, without, is_number, put_before, grafted, numbered, copied, relabelled}
use Rattle.widget_meaning.specs.Trees.{Trees, among, with_detached, moved, detached, depth_below}
use Rattle.widget_meaning.specs.NodeLaws.{times}
use Rattle.widget_meaning.proofs.Times.{none_of, none_more, parts_of, Parts, off, times_without, chain_le}
use Rattle.widget_meaning.proofs.Ancestors.{IsWithin, within_off}

-- a number's tree is so high at most, and another number is not in it
abbrev pub IsApart : ℕ → ℕ → ℕ → Trees → Type 0
IsApart n p h End = Unit {0}
IsApart n p h (Node m l ks ts) =
    (eqb m n ≡ true → (eqb m p ≡ false) × ((times p ks ≡ 0) × (height ks < h))) × (IsApart n p h ks × IsApart n p h ts)

pub apart_off : (n p h : ℕ) (ts : Trees) → times n ts ≡ 0 → IsApart n p h ts
apart_off n p h End e = tt
apart_off n p h (Node m l ks ts) e =
    let z = none_of (eqb m n) (times n ks) (times n ts) e in
    (λ f. absurd (clash (sym z.0 ∙ f)), (apart_off n p h ks z.1.0, apart_off n p h ts z.1.1))
  where
    clash : false ≡ true → ⊥
    clash e = cc

suc_le : (m n : ℕ) → m ≤ n → suc m ≤ suc n
suc_le m n h = omega arith

-- less deep is within too
pub within_higher : (p b d e : ℕ) (ts : Trees) → e ≤ d → IsWithin p b d ts → IsWithin p b e ts
within_higher p b d e End l h = tt
within_higher p b d e (Node m v ks ts) l h =
    (λ q. chain_le e d b l (h.0 q), (within_higher p b (suc d) (suc e) ks (suc_le e d l) h.1.0, within_higher p b d e ts l h.1.1))

pub within_beside : (p b d : ℕ) (us ts : Trees) → IsWithin p b d us → IsWithin p b d ts → IsWithin p b d (beside us ts)
within_beside p b d End ts h i = i
within_beside p b d (Node m l ks us) ts h i = (h.0, (h.1.0, within_beside p b d us ts h.1.1 i))

pub within_before : (p b d : ℕ) (s : Option ℕ) (us ts : Trees) → IsWithin p b d us → IsWithin p b d ts → IsWithin p b d (put_before s us ts)
within_before p b d s us End h i = h
within_before p b d s us (Node m l ks ts) h i = by (is_number m s) (within_before p b d s us ts h i.1.1)
  where
    by : (c : Bool) → IsWithin p b d (put_before s us ts) → IsWithin p b d (cond c (beside us (Node m l ks ts)) (Node m l ks (put_before s us ts)))
    by true e = within_beside p b d us (Node m l ks ts) h i
    by false e = (i.0, (i.1.0, e))

-- what is grafted has no such number
pub within_grafted : (p b d q : ℕ) (s : Option ℕ) (us ts : Trees) → times p us ≡ 0 → IsWithin p b d ts → IsWithin p b d (grafted q s us ts)
within_grafted p b d q s us End z h = tt
within_grafted p b d q s us (Node m l ks ts) z h = (h.0, (by (eqb m q) (within_grafted p b (suc d) q s us ks z h.1.0), within_grafted p b d q s us ts z h.1.1))
  where
    by : (c : Bool) → IsWithin p b (suc d) (grafted q s us ks) → IsWithin p b (suc d) (cond c (put_before s us (grafted q s us ks)) (grafted q s us ks))
    by true e = within_before p b (suc d) s us (grafted q s us ks) (within_off p b (suc d) us z) e
    by false e = e

pub within_without : (p b d q : ℕ) (ts : Trees) → IsWithin p b d ts → IsWithin p b d (without q ts)
within_without p b d q End h = tt
within_without p b d q (Node m l ks ts) h = by (eqb m q) (within_without p b (suc d) q ks h.1.0) (within_without p b d q ts h.1.1)
  where
    by : (c : Bool) → IsWithin p b (suc d) (without q ks) → IsWithin p b d (without q ts) → IsWithin p b d (cond c (without q ts) (Node m l (without q ks) (without q ts)))
    by true e f = f
    by false e f = (h.0, (e, f))

zero_le : (n : ℕ) → 0 ≤ n
zero_le n = omega arith

pub within_subtree : (p b d q : ℕ) (ts : Trees) → IsWithin p b d ts → IsWithin p b 0 (subtree q ts)
within_subtree p b d q End h = tt
within_subtree p b d q (Node m l ks ts) h = by (eqb m q) (tree_of q ks) (within_subtree p b (suc d) q ks h.1.0) (within_subtree p b d q ts h.1.1)
  where
    by : (c : Bool) (o : Option Trees) → IsWithin p b 0 (unwrap_or o End) → IsWithin p b 0 (subtree q ts)
        → IsWithin p b 0 (unwrap_or (cond c (Some (Node m l ks End)) (option_or o (tree_of q ts))) End)
    by true o e f = (λ x. chain_le 0 d b (zero_le d) (h.0 x), (within_higher p b (suc d) 1 ks (suc_le 0 d (zero_le d)) h.1.0, tt))
    by false (Some t) e f = e
    by false None e f = f

pub within_among : (p b d n : ℕ) (l : Label) (ks ts : Trees) → IsWithin p b d (Node n l ks End) → IsWithin p b d ts → IsWithin p b d (among n l ks ts)
within_among p b d n l ks End h i = h
within_among p b d n l ks (Node m v us ts) h i = by (nat_lt n m) (within_among p b d n l ks ts h i.1.1)
  where
    by : (c : Bool) → IsWithin p b d (among n l ks ts) → IsWithin p b d (cond c (Node n l ks (Node m v us ts)) (Node m v us (among n l ks ts)))
    by true e = (h.0, (h.1.0, i))
    by false e = (i.0, (i.1.0, e))

pub within_detached : (p b d : ℕ) (ts us : Trees) → IsWithin p b d ts → IsWithin p b d us → IsWithin p b d (with_detached ts us)
within_detached p b d End us h i = i
within_detached p b d (Node n l ks ts) End h i = h
within_detached p b d (Node n l ks ts) (Node r v us xs) h i =
    within_detached p b d ts (Node r v us (among n l ks xs)) h.1.1 (i.0, (i.1.0, within_among p b d n l ks xs (h.0, (h.1.0, tt)) i.1.1))

-- by the number of nodes above it, where it stands once
in_sum : (d k t : ℕ) → d ≤ d + t
in_sum d k t = omega arith

plus_one : (d : ℕ) → d + 1 ≡ suc d
plus_one d = omega arith

left_in : (a c : ℕ) → a ≤ a + c
left_in a c = omega arith

right_in : (a c : ℕ) → c ≤ a + c
right_in a c = omega arith

deeper : (p x y e : ℕ) (vs : Trees) → x ≤ y → IsWithin p x e vs → IsWithin p y e vs
deeper p x y e End l q = tt
deeper p x y e (Node k v ws xs) l q = (λ r. chain_le e x y (q.0 r) l, (deeper p x y (suc e) ws l q.1.0, deeper p x y e xs l q.1.1))

pub within_depth : (p d : ℕ) (ts : Trees) → times p ts ≤ 1 → IsWithin p (depth_below d p ts) d ts
within_depth p d End h = tt
within_depth p d (Node m l ks ts) h = by (eqb m p) h (within_depth p (d + 1) ks) (within_depth p d ts)
  where
    S : ℕ → Type 0
    S b = IsWithin p b (suc d) ks × IsWithin p b d ts

    by : (c : Bool) → cond c 1 0 + (times p ks + times p ts) ≤ 1
        → (times p ks ≤ 1 → IsWithin p (depth_below (d + 1) p ks) (d + 1) ks) → (times p ts ≤ 1 → IsWithin p (depth_below d p ts) d ts)
        → (c ≡ true → d ≤ cond c d (depth_below (d + 1) p ks) + depth_below d p ts) × S (cond c d (depth_below (d + 1) p ks) + depth_below d p ts)
    by true i f g = let z = none_more (times p ks) (times p ts) i in (λ e. in_sum d 0 (depth_below d p ts), (within_off p _ (suc d) ks z.0, within_off p _ d ts z.1))
    by false i f g = (λ e. absurd (clash e), either (parts_of false (times p ks) (times p ts) i))
      where
        clash : false ≡ true → ⊥
        clash e = cc

        either : Parts (times p ks) (times p ts) → S (depth_below (d + 1) p ks + depth_below d p ts)
        either (a, (b, inl z)) = (within_off p _ (suc d) ks z, deeper p _ _ d ts (right_in (depth_below (d + 1) p ks) (depth_below d p ts)) (g b))
        either (a, (b, inr z)) = (deeper p _ _ (suc d) ks (left_in (depth_below (d + 1) p ks) (depth_below d p ts)) (subst (λ x. IsWithin p (depth_below (d + 1) p ks) x ks) (plus_one d) (f a)), within_off p _ d ts z)

-- ## Heights
pub cases : (P : Bool → Type 0) (b : Bool) → (b ≡ true → P true) → (b ≡ false → P false) → P b
cases P true t f = t refl
cases P false t f = f refl

pub height_both : (us ts : Trees) → height (beside us ts) ≡ max (height us) (height ts)
height_both End ts = omega arith
height_both (Node m l ks us) ts = omega (arith, height_both us ts)

pub height_before : (s : Option ℕ) (us ts : Trees) → height (put_before s us ts) ≡ max (height ts) (height us)
height_before s us End = omega arith
height_before s us (Node m l ks ts) =
    cases (λ b. height (cond b (beside us (Node m l ks ts)) (Node m l ks (put_before s us ts))) ≡ max (max (height ks + 1) (height ts)) (height us)) (is_number m s)
    (λ _. omega (arith, height_both us (Node m l ks ts)))
    (λ _. omega (arith, height_before s us ts))

pub height_without : (n : ℕ) (ts : Trees) → height (without n ts) ≤ height ts
height_without n End = omega arith
height_without n (Node m l ks ts) = cases (λ b. height (cond b (without n ts) (Node m l (without n ks) (without n ts))) ≤ max (height ks + 1) (height ts)) (eqb m n) (λ _. omega (arith, height_without n ts)) (λ _. omega (arith, height_without n ks, height_without n ts))

pub height_subtree : (q : ℕ) (ts : Trees) → height (subtree q ts) ≤ height ts
height_subtree q End = omega arith
height_subtree q (Node m l ks ts) = by (eqb m q) (tree_of q ks) (height_subtree q ks) (height_subtree q ts)
  where
    by : (c : Bool) (o : Option Trees) → height (unwrap_or o End) ≤ height ks → height (subtree q ts) ≤ height ts
        → height (unwrap_or (cond c (Some (Node m l ks End)) (option_or o (tree_of q ts))) End) ≤ max (height ks + 1) (height ts)
    by true o e f = omega arith
    by false (Some t) e f = omega (arith, e)
    by false None e f = omega (arith, f)

pub height_among : (n : ℕ) (l : Label) (ks ts : Trees) → height (among n l ks ts) ≡ max (height ks + 1) (height ts)
height_among n l ks End = omega arith
height_among n l ks (Node m v us ts) =
    cases (λ b. height (cond b (Node n l ks (Node m v us ts)) (Node m v us (among n l ks ts))) ≡ max (height ks + 1) (max (height us + 1) (height ts))) (nat_lt n m)
    (λ _. refl)
    (λ _. omega (arith, height_among n l ks ts))

pub height_detached : (ts us : Trees) → height (with_detached ts us) ≡ max (height ts) (height us)
height_detached End us = omega arith
height_detached (Node n l ks ts) End = omega arith
height_detached (Node n l ks ts) (Node r v us xs) = omega (arith, height_detached ts (Node r v us (among n l ks xs)), height_among n l ks xs)

-- what is grafted low enough makes nothing too high
pub height_grafted : (p b d most : ℕ) (s : Option ℕ) (us ts : Trees) → height ts + d ≤ most → IsWithin p b d ts → b + 1 + height us ≤ most → height (grafted p s us ts) + d ≤ most
height_grafted p b d most s us End h i j = h
height_grafted p b d most s us (Node m l ks ts) h i j =
    let f : height (grafted p s us ks) + suc d ≤ most = height_grafted p b (suc d) most s us ks (omega (arith, h)) i.1.0 j in
    let g : height (grafted p s us ts) + d ≤ most = height_grafted p b d most s us ts (omega (arith, h)) i.1.1 j in
    cases (λ c. (c ≡ true → d ≤ b) → max (height (cond c (put_before s us (grafted p s us ks)) (grafted p s us ks)) + 1) (height (grafted p s us ts)) + d ≤ most) (eqb m p)
    (λ _ k. omega (arith, f, g, j, k refl, height_before s us (grafted p s us ks)))
    (λ _ k. omega (arith, f, g)) i.0

-- ## Trees apart
pub apart_beside : (n p h : ℕ) (us ts : Trees) → IsApart n p h us → IsApart n p h ts → IsApart n p h (beside us ts)
apart_beside n p h End ts a b = b
apart_beside n p h (Node m l ks us) ts a b = (a.0, (a.1.0, apart_beside n p h us ts a.1.1 b))

pub apart_before : (n p h : ℕ) (s : Option ℕ) (us ts : Trees) → IsApart n p h us → IsApart n p h ts → IsApart n p h (put_before s us ts)
apart_before n p h s us End a b = a
apart_before n p h s us (Node m l ks ts) a b = by (is_number m s) (apart_before n p h s us ts a b.1.1)
  where
    by : (c : Bool) → IsApart n p h (put_before s us ts) → IsApart n p h (cond c (beside us (Node m l ks ts)) (Node m l ks (put_before s us ts)))
    by true e = apart_beside n p h us (Node m l ks ts) a b
    by false e = (b.0, (b.1.0, e))

-- what is grafted at the other number
pub apart_grafted : (n p h : ℕ) (s : Option ℕ) (us ts : Trees) → IsApart n p h us → IsApart n p h ts → IsApart n p h (grafted p s us ts)
apart_grafted n p h s us End a b = tt
apart_grafted n p h s us (Node m l ks ts) a b = (same, (by (eqb m p) (apart_grafted n p h s us ks a b.1.0), apart_grafted n p h s us ts a b.1.1))
  where
    new : Bool → Trees
    new c = cond c (put_before s us (grafted p s us ks)) (grafted p s us ks)

    by : (c : Bool) → IsApart n p h (grafted p s us ks) → IsApart n p h (new c)
    by true e = apart_before n p h s us (grafted p s us ks) a e
    by false e = e

    same : eqb m n ≡ true → (eqb m p ≡ false) × ((times p (new (eqb m p)) ≡ 0) × (height (new (eqb m p)) < h))
    same e =
        let q = b.0 e in
        let is : new (eqb m p) ≡ ks = ap new q.0 ∙ off p s us ks q.1.0 in
        (q.0, (ap (times p) is ∙ q.1.0, subst (λ y. height y < h) (sym is) q.1.1))

no_more : (a b : ℕ) → a ≤ b → b ≡ 0 → a ≡ 0
no_more a b h e = omega arith

lower : (a b h : ℕ) → a ≤ b → b < h → a < h
lower a b h i j = omega arith

pub apart_without : (n p h q : ℕ) (ts : Trees) → IsApart n p h ts → IsApart n p h (without q ts)
apart_without n p h q End a = tt
apart_without n p h q (Node m l ks ts) a = by (eqb m q) (apart_without n p h q ks a.1.0) (apart_without n p h q ts a.1.1)
  where
    by : (c : Bool) → IsApart n p h (without q ks) → IsApart n p h (without q ts) → IsApart n p h (cond c (without q ts) (Node m l (without q ks) (without q ts)))
    by true e f = f
    by false e f = (λ x. let r = a.0 x in (r.0, (no_more _ _ (times_without q p ks) r.1.0, lower _ _ h (height_without q ks) r.1.1)), (e, f))

pub apart_subtree : (n p h q : ℕ) (ts : Trees) → IsApart n p h ts → IsApart n p h (subtree q ts)
apart_subtree n p h q End a = tt
apart_subtree n p h q (Node m l ks ts) a = by (eqb m q) (tree_of q ks) (apart_subtree n p h q ks a.1.0) (apart_subtree n p h q ts a.1.1)
  where
    by : (c : Bool) (o : Option Trees) → IsApart n p h (unwrap_or o End) → IsApart n p h (subtree q ts)
        → IsApart n p h (unwrap_or (cond c (Some (Node m l ks End)) (option_or o (tree_of q ts))) End)
    by true o e f = (a.0, (a.1.0, tt))
    by false (Some t) e f = e
    by false None e f = f

-- a node that stands once is taken from its place and put under another, in which it is not
pub apart_moved : (n p h q : ℕ) (s : Option ℕ) (ts : Trees) → IsApart n p h ts → IsApart n p h (moved p s ts q)
apart_moved n p h q s ts a = apart_grafted n p h s (subtree q ts) (without q ts) (apart_subtree n p h q ts a) (apart_without n p h q ts a)

-- by what a test of the meaning says
or_none : (a b : Bool) → (a || b) ≡ false → (a ≡ false) × (b ≡ false)
or_none true b h = cc
or_none false b h = (refl, h)

pub has_none : (p : ℕ) (ts : Trees) → has p ts ≡ false → times p ts ≡ 0
has_none p End h = refl
has_none p (Node m l ks ts) h =
    let a = or_none (eqb m p) (has p ks || has p ts) h in
    let b = or_none (has p ks) (has p ts) a.1 in
    ap (λ c. cond c 1 0 + (times p ks + times p ts)) a.0 ∙ omega (arith, has_none p ks b.0, has_none p ts b.1)

pub none_there : (n : ℕ) (ts : Trees) → times n ts ≡ 0 → tree_of n ts ≡ None
none_there n End h = refl
none_there n (Node m l ks ts) h =
    let z = none_of (eqb m n) (times n ks) (times n ts) h in
    ap (λ b. cond b (Some (Node m l ks End)) (option_or (tree_of n ks) (tree_of n ts))) z.0
    ∙ ap (λ o. option_or o (tree_of n ts)) (none_there n ks z.1.0) ∙ none_there n ts z.1.1

pub no_other : (o : Option Trees) → option_or o None ≡ o
no_other None = refl
no_other (Some t) = refl

pub apart_from : (n p h : ℕ) (ts : Trees) → times n ts ≤ 1 → has p (subtree n ts) ≡ false → height (subtree n ts) ≤ h → IsApart n p h ts
apart_from n p h End o a b = tt
apart_from n p h (Node m l ks ts) o a b = by (eqb m n) o a b (apart_from n p h ks) (apart_from n p h ts)
  where
    found : Bool → Trees
    found c = unwrap_or (cond c (Some (Node m l ks End)) (option_or (tree_of n ks) (tree_of n ts))) End

    by : (c : Bool) → cond c 1 0 + (times n ks + times n ts) ≤ 1 → has p (found c) ≡ false → height (found c) ≤ h
        → (times n ks ≤ 1 → has p (subtree n ks) ≡ false → height (subtree n ks) ≤ h → IsApart n p h ks)
        → (times n ts ≤ 1 → has p (subtree n ts) ≡ false → height (subtree n ts) ≤ h → IsApart n p h ts)
        → (c ≡ true → (eqb m p ≡ false) × ((times p ks ≡ 0) × (height ks < h))) × (IsApart n p h ks × IsApart n p h ts)
    by true o a b f g =
        let z = none_more (times n ks) (times n ts) o in
        let e = or_none (eqb m p) (has p ks || false) a in
        (λ x. (e.0, (has_none p ks (or_none (has p ks) false e.1).0, omega (arith, b))), (apart_off n p h ks z.0, apart_off n p h ts z.1))
    by false o a b f g = (λ x. absurd (clash x), either (parts_of false (times n ks) (times n ts) o))
      where
        clash : false ≡ true → ⊥
        clash e = cc

        either : Parts (times n ks) (times n ts) → IsApart n p h ks × IsApart n p h ts
        either (i, (j, inl z)) =
            let e : found false ≡ subtree n ts = ap (λ u. unwrap_or (option_or u (tree_of n ts)) End) (none_there n ks z) in
            (apart_off n p h ks z, g j (ap (has p) (sym e) ∙ a) (subst (λ y. height y ≤ h) e b))
        either (i, (j, inr z)) =
            let e : found false ≡ subtree n ks = ap (λ u. unwrap_or (option_or (tree_of n ks) u) End) (none_there n ts z) ∙ ap (λ u. unwrap_or u End) (no_other (tree_of n ks)) in
            (f i (ap (has p) (sym e) ∙ a) (subst (λ y. height y ≤ h) e b), apart_off n p h ts z)

-- a tree apart is no higher
pub apart_height : (n p h : ℕ) (ts : Trees) → IsApart n p h ts → height (subtree n ts) ≤ h
apart_height n p h End a = omega arith
apart_height n p h (Node m l ks ts) a = by (eqb m n) (tree_of n ks) a.0 (apart_height n p h ks a.1.0) (apart_height n p h ts a.1.1)
  where
    by : (c : Bool) (o : Option Trees) → (c ≡ true → (eqb m p ≡ false) × ((times p ks ≡ 0) × (height ks < h))) → height (unwrap_or o End) ≤ h → height (subtree n ts) ≤ h
        → height (unwrap_or (cond c (Some (Node m l ks End)) (option_or o (tree_of n ts))) End) ≤ h
    by true o x e f = omega (arith, (x refl).1.1)
    by false (Some t) x e f = e
    by false None x e f = f

-- ## What is kept by other changes

-- a number that is not in a node's tree
pub apart_times : (n p h : ℕ) (ts : Trees) → IsApart n p h ts → times p (subtree n ts) ≡ 0
apart_times n p h End a = refl
apart_times n p h (Node m l ks ts) a = by (eqb m n) (tree_of n ks) a.0 (apart_times n p h ks a.1.0) (apart_times n p h ts a.1.1)
  where
    by : (c : Bool) (o : Option Trees) → (c ≡ true → (eqb m p ≡ false) × ((times p ks ≡ 0) × (height ks < h))) → times p (unwrap_or o End) ≡ 0 → times p (subtree n ts) ≡ 0
        → times p (unwrap_or (cond c (Some (Node m l ks End)) (option_or o (tree_of n ts))) End) ≡ 0
    by true o x e f = ap (λ b. cond b 1 0 + (times p ks + 0)) (x refl).0 ∙ omega (arith, (x refl).1.0)
    by false (Some t) x e f = e
    by false None x e f = f

-- what is grafted elsewhere, where the tree is not
pub apart_elsewhere : (n p h q g : ℕ) (s : Option ℕ) (us ts : Trees) → IsApart n p h us → IsApart n p h ts → IsApart n q g ts → IsApart n p h (grafted q s us ts)
apart_elsewhere n p h q g s us End a b c = tt
apart_elsewhere n p h q g s us (Node m l ks ts) a b c = (same, (by (eqb m q) (apart_elsewhere n p h q g s us ks a b.1.0 c.1.0), apart_elsewhere n p h q g s us ts a b.1.1 c.1.1))
  where
    new : Bool → Trees
    new c = cond c (put_before s us (grafted q s us ks)) (grafted q s us ks)

    by : (c : Bool) → IsApart n p h (grafted q s us ks) → IsApart n p h (new c)
    by true e = apart_before n p h s us (grafted q s us ks) a e
    by false e = e

    same : eqb m n ≡ true → (eqb m p ≡ false) × ((times p (new (eqb m q)) ≡ 0) × (height (new (eqb m q)) < h))
    same e =
        let r = b.0 e in
        let o = c.0 e in
        let is : new (eqb m q) ≡ ks = ap new o.0 ∙ off q s us ks o.1.0 in
        (r.0, (ap (times p) is ∙ r.1.0, subst (λ y. height y < h) (sym is) r.1.1))

pub height_numbered : (n : ℕ) (ts : Trees) → height (numbered n ts) ≡ height ts
height_numbered n End = refl
height_numbered n (Node m l ks ts) = ap (λ x. max (x + 1) (height (numbered (n + 1 + size ks) ts))) (height_numbered (n + 1) ks) ∙ ap (λ x. max (height ks + 1) x) (height_numbered (n + 1 + size ks) ts)

pub height_copied : (ts : Trees) → height (copied ts) ≡ height ts
height_copied End = refl
height_copied (Node m l ks ts) = ap (λ x. max (x + 1) (height (copied ts))) (height_copied ks) ∙ ap (λ x. max (height ks + 1) x) (height_copied ts)

pub height_relabelled : (n : ℕ) (v : Label) (ts : Trees) → height (relabelled n v ts) ≡ height ts
height_relabelled n v End = refl
height_relabelled n v (Node m l ks ts) = ap (λ x. max (x + 1) (height (relabelled n v ts))) (height_relabelled n v ks) ∙ ap (λ x. max (height ks + 1) x) (height_relabelled n v ts)

-- a node taken out makes nothing higher
pub low_detached : (n most : ℕ) (ts : Trees) → height ts ≤ most → height (detached ts n) ≤ most
low_detached n most ts h = omega (arith, h, height_detached (subtree n ts) (without n ts), height_subtree n ts, height_without n ts)

pub within_freed : (p b n : ℕ) (ts : Trees) → IsWithin p b 0 ts → IsWithin p b 0 (detached ts n)
within_freed p b n ts h = within_detached p b 0 (subtree n ts) (without n ts) (within_subtree p b 0 n ts h) (within_without p b 0 n ts h)
