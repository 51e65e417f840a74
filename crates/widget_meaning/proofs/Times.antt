-- How often a number stands in trees, and what is done to trees.
use Rattle.std.proofs.Common.{◌≡◌, ℕ, zero, suc, ◌+◌, ◌<◌, ◌≤◌, Bool, true, false, refl, sym, ap, subst, ◌∙◌, cond, eqb, eqb-true, Option, Some, None, ◌⊎◌, inl, inr, arith}
use Rattle.std.specs.Prelude.{nat_lt}
use Rattle.std.proofs.lemmas.Bool.{ltb-true, ltb-false}
use Rattle.std.specs.Option.{option_or, unwrap_or}
use Rattle.plain_tree.specs.Trees.{Label, End, Node, beside, size}
use Rattle.tree_ops.specs.Trees.{tree_of, subtree, without, is_number, put_before, grafted, relabelled, numbered}
use Rattle.widget_meaning.specs.Trees.{Trees, among, with_detached, detached, moved}
use Rattle.widget_meaning.specs.NodeLaws.{times, IsPage}

-- ## Arithmetic
pub none_of : (b : Bool) (a c : ℕ) → cond b 1 0 + (a + c) ≡ 0 → (b ≡ false) × ((a ≡ 0) × (c ≡ 0))
none_of true a c h = absurd (no a c h)
  where
    no : (a c : ℕ) → 1 + (a + c) ≡ 0 → ⊥
    no a c e = omega arith
none_of false a c h = (refl, (left a c h, right a c h))
  where
    left : (a c : ℕ) → 0 + (a + c) ≡ 0 → a ≡ 0
    left a c e = omega arith

    right : (a c : ℕ) → 0 + (a + c) ≡ 0 → c ≡ 0
    right a c e = omega arith

-- of a sum of at most one
abbrev pub Parts : ℕ → ℕ → Type 0
Parts a c = (a ≤ 1) × ((c ≤ 1) × ((a ≡ 0) ⊎ (c ≡ 0)))

pub parts_of : (b : Bool) (a c : ℕ) → cond b 1 0 + (a + c) ≤ 1 → Parts a c
parts_of b a c h = (left b a c h, (right b a c h, either b a c h))
  where
    left : (b : Bool) (a c : ℕ) → cond b 1 0 + (a + c) ≤ 1 → a ≤ 1
    left true a c h = omega arith
    left false a c h = omega arith

    right : (b : Bool) (a c : ℕ) → cond b 1 0 + (a + c) ≤ 1 → c ≤ 1
    right true a c h = omega arith
    right false a c h = omega arith

    rest : (b : Bool) (a c : ℕ) → cond b 1 0 + (suc a + c) ≤ 1 → c ≡ 0
    rest true a c h = omega arith
    rest false a c h = omega arith

    either : (b : Bool) (a c : ℕ) → cond b 1 0 + (a + c) ≤ 1 → (a ≡ 0) ⊎ (c ≡ 0)
    either b zero c h = inl refl
    either b (suc a) c h = inr (rest b a c h)

pub none_more : (a c : ℕ) → 1 + (a + c) ≤ 1 → (a ≡ 0) × (c ≡ 0)
none_more a c h = (first a c h, second a c h)
  where
    first : (a c : ℕ) → 1 + (a + c) ≤ 1 → a ≡ 0
    first a c h = omega arith

    second : (a c : ℕ) → 1 + (a + c) ≤ 1 → c ≡ 0
    second a c h = omega arith

along : (b k u t : ℕ) → b + (k + (u + t)) ≡ (b + (k + u)) + t
along b k u t = omega arith

across : (b k u t : ℕ) → b + (k + (u + t)) ≡ u + (b + (k + t))
across b k u t = omega arith

at_target : (b k t u g i : ℕ) → g ≡ u + k → i ≡ t → b + (g + i) ≤ (b + (k + t)) + u
at_target b k t u g i e f = omega arith

in_children : (b k t u g i : ℕ) → g ≤ k + u → i ≡ t → b + (g + i) ≤ (b + (k + t)) + u
in_children b k t u g i e f = omega arith

beside_it : (b k t u g i : ℕ) → g ≡ k → i ≤ t + u → b + (g + i) ≤ (b + (k + t)) + u
beside_it b k t u g i e f = omega arith

nothing_le : (u : ℕ) → 0 ≤ 0 + u
nothing_le u = omega arith

plus_none : (u : ℕ) → u ≡ u + 0
plus_none u = omega arith

two_le : (a b c d : ℕ) → a ≤ c → b ≤ d → a + b ≤ c + d
two_le a b c d h i = omega arith

same_le : (n : ℕ) → n ≤ n
same_le n = omega arith

pub chain_le : (m n k : ℕ) → m ≤ n → n ≤ k → m ≤ k
chain_le m n k h i = omega arith

none_left : (m n : ℕ) → m ≤ n → n ≡ 0 → m ≡ 0
none_left m n h e = omega arith

-- ## Where a number is not
pub off : (p : ℕ) (s : Option ℕ) (us ts : Trees) → times p ts ≡ 0 → grafted p s us ts ≡ ts
off p s us End h = refl
off p s us (Node m l ks ts) h =
    let z = none_of (eqb m p) (times p ks) (times p ts) h in
    ap (λ c. Node m l (cond c (put_before s us (grafted p s us ks)) (grafted p s us ks)) (grafted p s us ts)) z.0
    ∙ ap (λ y. Node m l y (grafted p s us ts)) (off p s us ks z.1.0) ∙ ap (Node m l ks) (off p s us ts z.1.1)

-- ## How often a number stands
pub times_beside : (n : ℕ) (us ts : Trees) → times n (beside us ts) ≡ times n us + times n ts
times_beside n End ts = nothing (times n ts)
  where
    nothing : (t : ℕ) → t ≡ 0 + t
    nothing t = omega arith
times_beside n (Node m l ks us) ts = ap (λ x. cond (eqb m n) 1 0 + (times n ks + x)) (times_beside n us ts) ∙ along (cond (eqb m n) 1 0) (times n ks) (times n us) (times n ts)

pub times_before : (n : ℕ) (s : Option ℕ) (us ts : Trees) → times n (put_before s us ts) ≡ times n us + times n ts
times_before n s us End = plus_none (times n us)
times_before n s us (Node m l ks ts) = by (is_number m s) (times_before n s us ts)
  where
    by : (b : Bool) → times n (put_before s us ts) ≡ times n us + times n ts
        → times n (cond b (beside us (Node m l ks ts)) (Node m l ks (put_before s us ts))) ≡ times n us + (cond (eqb m n) 1 0 + (times n ks + times n ts))
    by true e = times_beside n us (Node m l ks ts)
    by false e = ap (λ x. cond (eqb m n) 1 0 + (times n ks + x)) e ∙ across (cond (eqb m n) 1 0) (times n ks) (times n us) (times n ts)

pub times_grafted : (p n : ℕ) (s : Option ℕ) (us ts : Trees) → times p ts ≤ 1 → times n (grafted p s us ts) ≤ times n ts + times n us
times_grafted p n s us End h = nothing_le (times n us)
times_grafted p n s us (Node m l ks ts) h = by (eqb m p) h (times_grafted p n s us ks) (times_grafted p n s us ts)
  where
    c : ℕ
    c = cond (eqb m n) 1 0

    stays : (vs : Trees) → times p vs ≡ 0 → times n (grafted p s us vs) ≡ times n vs
    stays vs z = ap (times n) (off p s us vs z)

    either : Parts (times p ks) (times p ts) → (times p ks ≤ 1 → times n (grafted p s us ks) ≤ times n ks + times n us) → (times p ts ≤ 1 → times n (grafted p s us ts) ≤ times n ts + times n us)
        → c + (times n (grafted p s us ks) + times n (grafted p s us ts)) ≤ (c + (times n ks + times n ts)) + times n us
    either (a, (b, inl z)) hk ht = beside_it c (times n ks) (times n ts) (times n us) _ _ (stays ks z) (ht b)
    either (a, (b, inr z)) hk ht = in_children c (times n ks) (times n ts) (times n us) _ _ (hk a) (stays ts z)

    by : (b : Bool) → cond b 1 0 + (times p ks + times p ts) ≤ 1
        → (times p ks ≤ 1 → times n (grafted p s us ks) ≤ times n ks + times n us) → (times p ts ≤ 1 → times n (grafted p s us ts) ≤ times n ts + times n us)
        → c + (times n (cond b (put_before s us (grafted p s us ks)) (grafted p s us ks)) + times n (grafted p s us ts)) ≤ (c + (times n ks + times n ts)) + times n us
    by true h hk ht =
        let z = none_more (times p ks) (times p ts) h in
        at_target c (times n ks) (times n ts) (times n us) _ _ (times_before n s us (grafted p s us ks) ∙ ap (λ x. times n us + x) (stays ks z.0)) (stays ts z.1)
    by false h hk ht = either (parts_of false (times p ks) (times p ts) h) hk ht

-- what is in a node's tree and what is not are all
pub times_without : (q n : ℕ) (ts : Trees) → times n (without q ts) ≤ times n ts
times_without q n End = same_le 0
times_without q n (Node m l ks ts) = by (eqb m q) (times_without q n ks) (times_without q n ts)
  where
    less : (c k t g : ℕ) → g ≤ t → g ≤ c + (k + t)
    less c k t g h = omega arith

    both : (c k t g i : ℕ) → g ≤ k → i ≤ t → c + (g + i) ≤ c + (k + t)
    both c k t g i h j = omega arith

    by : (b : Bool) → times n (without q ks) ≤ times n ks → times n (without q ts) ≤ times n ts
        → times n (cond b (without q ts) (Node m l (without q ks) (without q ts))) ≤ cond (eqb m n) 1 0 + (times n ks + times n ts)
    by true h i = less (cond (eqb m n) 1 0) (times n ks) (times n ts) _ i
    by false h i = both (cond (eqb m n) 1 0) (times n ks) (times n ts) _ _ h i

pub times_parts : (q n : ℕ) (ts : Trees) → times n (subtree q ts) + times n (without q ts) ≤ times n ts
times_parts q n End = same_le 0
times_parts q n (Node m l ks ts) = by (eqb m q) (tree_of q ks) (times_parts q n ks) (times_parts q n ts) (times_without q n ks) (times_without q n ts)
  where
    c : ℕ
    c = cond (eqb m n) 1 0

    found : (c k t g : ℕ) → g ≤ t → (c + (k + 0)) + g ≤ c + (k + t)
    found c k t g h = omega arith

    in_first : (c k t a g i : ℕ) → a + g ≤ k → i ≤ t → a + (c + (g + i)) ≤ c + (k + t)
    in_first c k t a g i h j = omega arith

    in_rest : (c k t a g i : ℕ) → g ≤ k → a + i ≤ t → a + (c + (g + i)) ≤ c + (k + t)
    in_rest c k t a g i h j = omega arith

    by : (b : Bool) (o : Option Trees) → times n (unwrap_or o End) + times n (without q ks) ≤ times n ks → times n (subtree q ts) + times n (without q ts) ≤ times n ts
        → times n (without q ks) ≤ times n ks → times n (without q ts) ≤ times n ts
        → times n (unwrap_or (cond b (Some (Node m l ks End)) (option_or o (tree_of q ts))) End) + times n (cond b (without q ts) (Node m l (without q ks) (without q ts))) ≤ c + (times n ks + times n ts)
    by true o hk ht wk wt = found c (times n ks) (times n ts) _ wt
    by false (Some t) hk ht wk wt = in_first c (times n ks) (times n ts) (times n t) _ _ hk wt
    by false None hk ht wk wt = in_rest c (times n ks) (times n ts) (times n (subtree q ts)) _ _ wk ht

-- detached trees
pub times_among : (q : ℕ) (n : ℕ) (l : Label) (ks ts : Trees) → times q (among n l ks ts) ≡ times q (Node n l ks End) + times q ts
times_among q n l ks End = plus_none _
times_among q n l ks (Node m v us ts) = by (nat_lt n m) (times_among q n l ks ts)
  where
    first : (c k d u t : ℕ) → c + (k + (d + (u + t))) ≡ (c + (k + 0)) + (d + (u + t))
    first c k d u t = omega arith

    later : (x d u t g : ℕ) → g ≡ x + t → d + (u + g) ≡ x + (d + (u + t))
    later x d u t g e = omega arith

    by : (b : Bool) → times q (among n l ks ts) ≡ times q (Node n l ks End) + times q ts
        → times q (cond b (Node n l ks (Node m v us ts)) (Node m v us (among n l ks ts))) ≡ times q (Node n l ks End) + times q (Node m v us ts)
    by true e = first (cond (eqb n q) 1 0) (times q ks) (cond (eqb m q) 1 0) (times q us) (times q ts)
    by false e = later (times q (Node n l ks End)) (cond (eqb m q) 1 0) (times q us) (times q ts) _ e

pub times_detached : (q : ℕ) (ts us : Trees) → times q (with_detached ts us) ≡ times q ts + times q us
times_detached q End us = nothing (times q us)
  where
    nothing : (t : ℕ) → t ≡ 0 + t
    nothing t = omega arith
times_detached q (Node n l ks ts) End = plus_none _
times_detached q (Node n l ks ts) (Node r v us xs) =
    times_detached q ts (Node r v us (among n l ks xs)) ∙ moved_sum (times q ts) (cond (eqb r q) 1 0) (times q us) (cond (eqb n q) 1 0) (times q ks) (times q xs) _ (times_among q n l ks xs)
  where
    moved_sum : (t d u c k x g : ℕ) → g ≡ (c + (k + 0)) + x → t + (d + (u + g)) ≡ (c + (k + t)) + (d + (u + x))
    moved_sum t d u c k x g e = omega arith

pub times_relabelled : (q n : ℕ) (l : Label) (ts : Trees) → times q (relabelled n l ts) ≡ times q ts
times_relabelled q n l End = refl
times_relabelled q n l (Node m v ks ts) =
    ap (λ x. cond (eqb m q) 1 0 + (x + times q (relabelled n l ts))) (times_relabelled q n l ks) ∙ ap (λ x. cond (eqb m q) 1 0 + (times q ks + x)) (times_relabelled q n l ts)

-- new numbers are from one on, and each is there once
pub record IsNew (q n top t : ℕ) : Type 0 where
  pub once : t ≤ 1
  pub before : q < n → t ≡ 0
  pub past : top ≤ q → t ≡ 0

none_new : (q n : ℕ) → IsNew q n (n + 0) 0
none_new q n = record { once = omega arith; before = λ h. refl; past = λ h. refl }

same_number : (q n : ℕ) (b : Bool) → eqb n q ≡ b → b ≡ true → n ≡ q
same_number q n b e f = eqb-true n q (e ∙ f)

both_new : (q n k r a b : ℕ) (c : Bool) → (c ≡ true → n ≡ q) → IsNew q (n + 1) (n + 1 + k) a → IsNew q (n + 1 + k) (n + 1 + k + r) b → IsNew q n (n + (k + r + 1)) (cond c 1 0 + (a + b))
both_new q n k r a b c e g h = record { once = once c e; before = before c e; past = past c e }
  where
    once : (c : Bool) → (c ≡ true → n ≡ q) → cond c 1 0 + (a + b) ≤ 1
    once true e = omega (arith, e refl, g.before (omega (arith, e refl)), h.before (omega (arith, e refl)))
    once false e = less (nat_lt q (n + 1 + k)) refl
      where
        less : (d : Bool) → nat_lt q (n + 1 + k) ≡ d → 0 + (a + b) ≤ 1
        less true f = omega (arith, g.once, h.before (ltb-true q (n + 1 + k) f))
        less false f = omega (arith, h.once, g.past (ltb-false q (n + 1 + k) f))

    before : (c : Bool) → (c ≡ true → n ≡ q) → q < n → cond c 1 0 + (a + b) ≡ 0
    before true e f = absurd (omega (arith, e refl, f))
    before false e f = omega (arith, g.before (omega (arith, f)), h.before (omega (arith, f)))

    past : (c : Bool) → (c ≡ true → n ≡ q) → n + (k + r + 1) ≤ q → cond c 1 0 + (a + b) ≡ 0
    past true e f = absurd (omega (arith, e refl, f))
    past false e f = omega (arith, g.past (omega (arith, f)), h.past (omega (arith, f)))

pub times_numbered : (q n : ℕ) (ts : Trees) → IsNew q n (n + size ts) (times q (numbered n ts))
times_numbered q n End = none_new q n
times_numbered q n (Node m l ks ts) =
    both_new q n (size ks) (size ts) (times q (numbered (n + 1) ks)) (times q (numbered (n + 1 + size ks) ts)) (eqb n q) (same_number q n (eqb n q) refl)
    (times_numbered q (n + 1) ks) (times_numbered q (n + 1 + size ks) ts)

-- ## Pages, whose numbers stand once, each below how many nodes there were
pub relabelled_once : (f : Trees) (k n : ℕ) (l : Label) → IsPage f k → IsPage (relabelled n l f) k
relabelled_once f k n l h = record {
  once = λ q. subst (λ x. x ≤ 1) (sym (times_relabelled q n l f)) (h.once q);
  there = λ q i. times_relabelled q n l f ∙ h.there q i;
}

pub moved_once : (f : Trees) (k p q : ℕ) (s : Option ℕ) → IsPage f k → IsPage (moved p s f q) k
moved_once f k p q s h = record { once = λ x. chain_le _ _ 1 (fewer x) (h.once x); there = λ x i. none_left _ _ (fewer x) (h.there x i) }
  where
    fewer : (x : ℕ) → times x (moved p s f q) ≤ times x f
    fewer x = omega (arith, times_grafted p x s (subtree q f) (without q f) (omega (arith, times_without q p f, h.once p)), times_parts q x f)

pub detached_once : (f : Trees) (k q : ℕ) → IsPage f k → IsPage (detached f q) k
detached_once f k q h = record { once = λ x. chain_le _ _ 1 (fewer x) (h.once x); there = λ x i. none_left _ _ (fewer x) (h.there x i) }
  where
    fewer : (x : ℕ) → times x (detached f q) ≤ times x f
    fewer x = omega (arith, times_detached x (subtree q f) (without q f), times_parts q x f)

pub put_in_once : (f us : Trees) (k p : ℕ) (s : Option ℕ) → IsPage f k → IsPage (grafted p s (numbered k us) f) (k + size us)
put_in_once f us k p s h = record { once = λ x. once x (nat_lt x k) refl; there = there }
  where
    sum : (x : ℕ) → times x (grafted p s (numbered k us) f) ≤ times x f + times x (numbered k us)
    sum x = times_grafted p x s (numbered k us) f (h.once p)

    once : (x : ℕ) (b : Bool) → nat_lt x k ≡ b → times x (grafted p s (numbered k us) f) ≤ 1
    once x true e = omega (arith, sum x, h.once x, (times_numbered x k us).before (ltb-true x k e))
    once x false e = omega (arith, sum x, h.there x (ltb-false x k e), (times_numbered x k us).once)

    there : (x : ℕ) → k + size us ≤ x → times x (grafted p s (numbered k us) f) ≡ 0
    there x i = omega (arith, sum x, h.there x (omega (arith, i)), (times_numbered x k us).past i)

pub born_once : (f : Trees) (k : ℕ) (l : Label) → IsPage f k → IsPage (with_detached (Node k l End End) f) (k + 1)
born_once f k l h = record { once = λ x. once x (eqb k x) refl; there = λ x i. there x (eqb k x) refl i }
  where
    sum : (x : ℕ) → times x (with_detached (Node k l End End) f) ≡ times x (Node k l End End) + times x f
    sum x = times_detached x (Node k l End End) f

    once : (x : ℕ) (b : Bool) → eqb k x ≡ b → times x (with_detached (Node k l End End) f) ≤ 1
    once x true e = omega (arith, sum x, ap (λ c. cond {A = ℕ} c 1 0 + (0 + 0)) e, h.there x (omega (arith, eqb-true k x e)))
    once x false e = omega (arith, sum x, ap (λ c. cond {A = ℕ} c 1 0 + (0 + 0)) e, h.once x)

    there : (x : ℕ) (b : Bool) → eqb k x ≡ b → k + 1 ≤ x → times x (with_detached (Node k l End End) f) ≡ 0
    there x true e i = absurd (omega (arith, eqb-true k x e, i))
    there x false e i = omega (arith, sum x, ap (λ c. cond {A = ℕ} c 1 0 + (0 + 0)) e, h.there x (omega (arith, i)))

pub size_numbered : (n : ℕ) (ts : Trees) → size (numbered n ts) ≡ size ts
size_numbered n End = refl
size_numbered n (Node m l ks ts) = ap (λ x. x + size (numbered (n + 1 + size ks) ts) + 1) (size_numbered (n + 1) ks) ∙ ap (λ x. size ks + x + 1) (size_numbered (n + 1 + size ks) ts)

pub grown_once : (f us : Trees) (k p : ℕ) (s : Option ℕ) → IsPage f k → IsPage (grafted p s (numbered k us) f) (k + size (numbered k us))
grown_once f us k p s h = subst (λ x. IsPage (grafted p s (numbered k us) f) (k + x)) (sym (size_numbered k us)) (put_in_once f us k p s h)
