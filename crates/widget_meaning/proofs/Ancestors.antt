-- A node's parent stands one higher, so no way up is longer than the trees are high.
use Rattle.std.proofs.Common.{◌≡◌, ℕ, zero, suc, ◌+◌, ◌≤◌, List, Bool, true, false, refl, sym, ap, ◌∙◌, subst, cond, eqb, eqb-true, eq-eqb, ◌||◌, Option, Some, None, arith}
use Rattle.std.specs.List.{list_any}
use Rattle.std.specs.Option.{option_or}
use Rattle.plain_tree.specs.Trees.{Label, End, Node, height}
use Rattle.widget_meaning.specs.Trees.{Trees, tops, parent}
use Rattle.widget_meaning.specs.OwnState.{State}
use Rattle.widget_meaning.specs.Dispatch.{listening, here_or_above, nearest_from}
use Rattle.widget_meaning.specs.Limits.{max_node_depth}
use Rattle.widget_meaning.specs.NodeLaws.{times, AncestorLaws}
use Rattle.widget_meaning.proofs.Times.{none_of, none_more, parts_of}

-- a number stands at this depth at most, in trees at a depth
abbrev pub IsWithin : ℕ → ℕ → ℕ → Trees → Type 0
IsWithin p b d End = Unit {0}
IsWithin p b d (Node m l ks ts) = (eqb m p ≡ true → d ≤ b) × (IsWithin p b (suc d) ks × IsWithin p b d ts)

-- each number once
abbrev pub AreOnce : Trees → Type 0
AreOnce ts = (n : ℕ) → times n ts ≤ 1

pub within_off : (p b d : ℕ) (ts : Trees) → times p ts ≡ 0 → IsWithin p b d ts
within_off p b d End h = tt
within_off p b d (Node m l ks ts) h =
    let z = none_of (eqb m p) (times p ks) (times p ts) h in
    (λ e. absurd (clash (sym z.0 ∙ e)), (within_off p b (suc d) ks z.1.0, within_off p b d ts z.1.1))
  where
    clash : false ≡ true → ⊥
    clash e = cc

-- all stand within the height
pub within_height : (p b d : ℕ) (ts : Trees) → height ts + d ≤ suc b → IsWithin p b d ts
within_height p b d End h = tt
within_height p b d (Node m l ks ts) h = (λ e. omega (arith, h), (within_height p b (suc d) ks (omega (arith, h)), within_height p b d ts (omega (arith, h))))

pub top_within : (n b d : ℕ) (ts : Trees) → list_any (eqb n) (tops ts) ≡ true → IsWithin n b d ts → d ≤ b
top_within n b d End h w = cc
top_within n b d (Node m l ks ts) h w = by (eqb n m) refl h (λ e. top_within n b d ts e w.1.1)
  where
    by : (c : Bool) → eqb n m ≡ c → (c || list_any (eqb n) (tops ts)) ≡ true → (list_any (eqb n) (tops ts) ≡ true → d ≤ b) → d ≤ b
    by true e h f = w.0 (eq-eqb m n (sym (eqb-true n m e)))
    by false e h f = f h

-- the parent of a node stands one higher
pub record IsAbove (n q b d : ℕ) (ts : Trees) : Type 0 where
  pub there : 1 ≤ times q ts
  pub deep : suc d ≤ b
  pub within : (c : ℕ) → b ≡ suc c → IsWithin q c d ts

some_is : (m q : ℕ) → Some m ≡ Some q → m ≡ q
some_is m q e = cc

pub once_parts : (m : ℕ) (l : Label) (ks ts : Trees) → AreOnce (Node m l ks ts) → AreOnce ks × AreOnce ts
once_parts m l ks ts h = ((λ n. (parts_of (eqb m n) (times n ks) (times n ts) (h n)).0), (λ n. (parts_of (eqb m n) (times n ks) (times n ts) (h n)).1.0))

pub above : (n q b d : ℕ) (ts : Trees) → AreOnce ts → parent n ts ≡ Some q → IsWithin n b d ts → IsAbove n q b d ts
above n q b d End h e w = cc
above n q b d (Node m l ks ts) h e w =
    let o = once_parts m l ks ts h in
    by (list_any (eqb n) (tops ks)) refl (parent n ks) refl e (λ r f. above n r b (suc d) ks o.0 f w.1.0) (λ f. above n q b d ts o.1 f w.1.1)
  where
    -- it is the parent of a top
    is_node : (r : ℕ) → m ≡ r → suc d ≤ b → IsAbove n r b d (Node m l ks ts)
    is_node r e f =
        let z = none_more (times m ks) (times m ts) (subst (λ c. cond c 1 0 + (times m ks + times m ts) ≤ 1) (eq-eqb m m refl) (h m)) in
        subst (λ x. IsAbove n x b d (Node m l ks ts)) e (record {
          there = subst (λ c. 1 ≤ cond c 1 0 + (times m ks + times m ts)) (sym (eq-eqb m m refl)) (omega arith);
          deep = f;
          within = λ c g. ((λ x. omega (arith, f, g)), (within_off m c (suc d) ks z.0, within_off m c d ts z.1));
        })

    -- it stands in one of the two alone
    alone : (c : Bool) (x y : ℕ) → 1 ≤ x → cond c 1 0 + (x + y) ≤ 1 → (c ≡ false) × (y ≡ 0)
    alone true x y i j = absurd (no x y i j)
      where
        no : (x y : ℕ) → 1 ≤ x → 1 + (x + y) ≤ 1 → ⊥
        no x y i j = omega arith
    alone false x y i j = (refl, rest x y i j)
      where
        rest : (x y : ℕ) → 1 ≤ x → 0 + (x + y) ≤ 1 → y ≡ 0
        rest x y i j = omega arith

    turned : (c x y : ℕ) → c + (x + y) ≤ 1 → c + (y + x) ≤ 1
    turned c x y i = omega arith

    clash : false ≡ true → ⊥
    clash e = cc

    in_children : IsAbove n q b (suc d) ks → IsAbove n q b d (Node m l ks ts)
    in_children a =
        let z = alone (eqb m q) (times q ks) (times q ts) a.there (h q) in
        record {
          there = omega (arith, a.there);
          deep = omega (arith, a.deep);
          within = λ c g. ((λ x. absurd (clash (sym z.0 ∙ x))), (a.within c g, within_off q c d ts z.1));
        }

    in_others : IsAbove n q b d ts → IsAbove n q b d (Node m l ks ts)
    in_others a =
        let z = alone (eqb m q) (times q ts) (times q ks) a.there (turned (cond (eqb m q) 1 0) (times q ks) (times q ts) (h q)) in
        record {
          there = omega (arith, a.there);
          deep = a.deep;
          within = λ c g. ((λ x. absurd (clash (sym z.0 ∙ x))), (within_off q c (suc d) ks z.1, a.within c g));
        }

    by : (t : Bool) → list_any (eqb n) (tops ks) ≡ t → (r : Option ℕ) → parent n ks ≡ r → option_or (cond t (Some m) r) (parent n ts) ≡ Some q
        → ((r : ℕ) → parent n ks ≡ Some r → IsAbove n r b (suc d) ks) → (parent n ts ≡ Some q → IsAbove n q b d ts) → IsAbove n q b d (Node m l ks ts)
    by true u r v e f g = is_node q (some_is m q e) (top_within n b (suc d) ks u w.1.0)
    by false u (Some r) v e f g = in_children (subst (λ x. IsAbove n x b (suc d) ks) (some_is r q e) (f r v))
    by false u None v e f g = in_others (g e)

-- ## The way up
none_near : (m : ℕ) (s : State) (kind : List ℕ) → nearest_from m s None kind ≡ None
none_near zero s kind = refl
none_near (suc m) s kind = refl

pub near : (b m n : ℕ) (s : State) (kind : List ℕ) → suc b ≤ m → AreOnce s.own.forest → IsWithin n b 0 s.own.forest
    → nearest_from m s (Some n) kind ≡ nearest_from (suc b) s (Some n) kind
near b zero n s kind i o w = absurd (no b i)
  where
    no : (b : ℕ) → suc b ≤ 0 → ⊥
    no b i = omega arith
near b (suc m) n s kind i o w = ap (λ r. here_or_above n (listening s n kind) (λ x. r)) (up b i w (parent n s.own.forest) refl (λ c q j v. near c m q s kind j o v))
  where
    up : (b : ℕ) → suc b ≤ suc m → IsWithin n b 0 s.own.forest → (r : Option ℕ) → parent n s.own.forest ≡ r
        → ((c q : ℕ) → suc c ≤ m → IsWithin q c 0 s.own.forest → nearest_from m s (Some q) kind ≡ nearest_from (suc c) s (Some q) kind)
        → nearest_from m s r kind ≡ nearest_from b s r kind
    up b i w None e f = none_near m s kind ∙ sym (none_near b s kind)
    up zero i w (Some q) e f = absurd (no (above n q zero 0 s.own.forest o e w).deep)
      where
        no : 1 ≤ 0 → ⊥
        no i = omega arith
    up (suc c) i w (Some q) e f = f c q (omega (arith, i)) ((above n q (suc c) 0 s.own.forest o e w).within c refl)

no_fewer : (n more : ℕ) → n ≤ n + more
no_fewer n more = omega arith

at_top : (m n : ℕ) → m ≤ n → m + 0 ≤ n
at_top m n h = omega arith

pub ancestor_laws : AncestorLaws
ancestor_laws s None kind k more h low = none_near (max_node_depth + 1 + more) s kind
ancestor_laws s (Some n) kind k more h low =
    near max_node_depth (max_node_depth + 1 + more) n s kind (no_fewer (max_node_depth + 1) more) h.once (within_height n max_node_depth 0 s.own.forest (at_top (height s.own.forest) (max_node_depth + 1) low))
