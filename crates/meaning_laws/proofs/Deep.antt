-- A node that gets a text node for its value stands low enough, or takes the value itself.
use Rattle.std.proofs.Common.{◌≡◌, ℕ, suc, ◌+◌, ◌≤◌, ◌⊎◌, Bool, true, false, refl, sym, ap, ◌∙◌, subst, cond, eqb, ◌||◌, Option, Some, None, inl, inr, [], arith}
use Rattle.std.specs.Prelude.{nat_lt, not, if◌then◌else◌}
use Rattle.std.specs.Option.{option_or, unwrap_or, option_map_or, option_and_then}
use Rattle.plain_tree.specs.Trees.{Label, End, Node, beside}
use Rattle.tree_ops.specs.Labels.{is_text, tag_of}
use Rattle.tree_ops.specs.Trees.{tree_of, subtree, without, is_number, put_before, grafted, relabelled}
use Rattle.query_grammar.specs.Filters as node
use Rattle.widget_meaning.specs.Trees.{Trees, among, with_detached, detached, first_label, label_of}
use Rattle.widget_meaning.specs.NodeLaws.{times}
use Rattle.widget_meaning.proofs.Times.{none_of, none_more, parts_of, Parts}
use Rattle.widget_meaning.proofs.Ancestors.{IsWithin, within_off}
use Rattle.meaning_laws.proofs.Levels.{none_there, no_other}

suc_le : (m n : ℕ) → m ≤ n → suc m ≤ suc n
suc_le m n h = omega arith

zero_le : (n : ℕ) → 0 ≤ n
zero_le n = omega arith

clash : false ≡ true → ⊥
clash e = cc

-- whether a node takes a value itself: an `input` or a text node
abbrev pub is_own : Option Label → Bool
is_own o = node.is_input (record { tag = if not (option_map_or is_text o false) then Some (unwrap_or (option_and_then tag_of o) []) else None; attribute = λ x. None }) || option_map_or is_text o false

-- of a label at a depth
abbrev pub Fits : Label → ℕ → Type 0
Fits l d = (is_own (Some l) ≡ true) ⊎ (d ≤ 199)

fits_higher : (l : Label) (d e : ℕ) → e ≤ d → Fits l d → Fits l e
fits_higher l d e h (inl o) = inl o
fits_higher l d e h (inr i) = inr (omega (arith, h, i))

-- each node with a number is of such a label, or stands so deep at most
abbrev pub IsDeep : ℕ → ℕ → Trees → Type 0
IsDeep n d End = Unit {0}
IsDeep n d (Node m l ks ts) = (eqb m n ≡ true → Fits l d) × (IsDeep n (suc d) ks × IsDeep n d ts)

deep_off : (n d : ℕ) (ts : Trees) → times n ts ≡ 0 → IsDeep n d ts
deep_off n d End h = tt
deep_off n d (Node m l ks ts) h =
    let z = none_of (eqb m n) (times n ks) (times n ts) h in
    (λ e. absurd (clash (sym z.0 ∙ e)), (deep_off n (suc d) ks z.1.0, deep_off n d ts z.1.1))

deep_higher : (n d e : ℕ) (ts : Trees) → e ≤ d → IsDeep n d ts → IsDeep n e ts
deep_higher n d e End l h = tt
deep_higher n d e (Node m v ks ts) l h =
    (λ q. fits_higher v d e l (h.0 q), (deep_higher n (suc d) (suc e) ks (suc_le e d l) h.1.0, deep_higher n d e ts l h.1.1))

deep_beside : (n d : ℕ) (us ts : Trees) → IsDeep n d us → IsDeep n d ts → IsDeep n d (beside us ts)
deep_beside n d End ts h i = i
deep_beside n d (Node m l ks us) ts h i = (h.0, (h.1.0, deep_beside n d us ts h.1.1 i))

deep_before : (n d : ℕ) (s : Option ℕ) (us ts : Trees) → IsDeep n d us → IsDeep n d ts → IsDeep n d (put_before s us ts)
deep_before n d s us End h i = h
deep_before n d s us (Node m l ks ts) h i = by (is_number m s) (deep_before n d s us ts h i.1.1)
  where
    by : (c : Bool) → IsDeep n d (put_before s us ts) → IsDeep n d (cond c (beside us (Node m l ks ts)) (Node m l ks (put_before s us ts)))
    by true e = deep_beside n d us (Node m l ks ts) h i
    by false e = (i.0, (i.1.0, e))

pub deep_grafted : (n d q : ℕ) (s : Option ℕ) (us ts : Trees) → times n us ≡ 0 → IsDeep n d ts → IsDeep n d (grafted q s us ts)
deep_grafted n d q s us End z h = tt
deep_grafted n d q s us (Node m l ks ts) z h = (h.0, (by (eqb m q) (deep_grafted n (suc d) q s us ks z h.1.0), deep_grafted n d q s us ts z h.1.1))
  where
    by : (c : Bool) → IsDeep n (suc d) (grafted q s us ks) → IsDeep n (suc d) (cond c (put_before s us (grafted q s us ks)) (grafted q s us ks))
    by true e = deep_before n (suc d) s us (grafted q s us ks) (deep_off n (suc d) us z) e
    by false e = e

deep_without : (n d q : ℕ) (ts : Trees) → IsDeep n d ts → IsDeep n d (without q ts)
deep_without n d q End h = tt
deep_without n d q (Node m l ks ts) h = by (eqb m q) (deep_without n (suc d) q ks h.1.0) (deep_without n d q ts h.1.1)
  where
    by : (c : Bool) → IsDeep n (suc d) (without q ks) → IsDeep n d (without q ts) → IsDeep n d (cond c (without q ts) (Node m l (without q ks) (without q ts)))
    by true e f = f
    by false e f = (h.0, (e, f))

deep_subtree : (n d q : ℕ) (ts : Trees) → IsDeep n d ts → IsDeep n 0 (subtree q ts)
deep_subtree n d q End h = tt
deep_subtree n d q (Node m l ks ts) h = by (eqb m q) (tree_of q ks) (deep_subtree n (suc d) q ks h.1.0) (deep_subtree n d q ts h.1.1)
  where
    by : (c : Bool) (o : Option Trees) → IsDeep n 0 (unwrap_or o End) → IsDeep n 0 (subtree q ts)
        → IsDeep n 0 (unwrap_or (cond c (Some (Node m l ks End)) (option_or o (tree_of q ts))) End)
    by true o e f = (λ x. fits_higher l d 0 (zero_le d) (h.0 x), (deep_higher n (suc d) 1 ks (suc_le 0 d (zero_le d)) h.1.0, tt))
    by false (Some t) e f = e
    by false None e f = f

deep_among : (n d q : ℕ) (l : Label) (ks ts : Trees) → IsDeep n d (Node q l ks End) → IsDeep n d ts → IsDeep n d (among q l ks ts)
deep_among n d q l ks End h i = h
deep_among n d q l ks (Node m v us ts) h i = by (nat_lt q m) (deep_among n d q l ks ts h i.1.1)
  where
    by : (c : Bool) → IsDeep n d (among q l ks ts) → IsDeep n d (cond c (Node q l ks (Node m v us ts)) (Node m v us (among q l ks ts)))
    by true e = (h.0, (h.1.0, i))
    by false e = (i.0, (i.1.0, e))

deep_behind : (n d : ℕ) (ts us : Trees) → IsDeep n d ts → IsDeep n d us → IsDeep n d (with_detached ts us)
deep_behind n d End us h i = i
deep_behind n d (Node q l ks ts) End h i = h
deep_behind n d (Node q l ks ts) (Node r v us xs) h i =
    deep_behind n d ts (Node r v us (among q l ks xs)) h.1.1 (i.0, (i.1.0, deep_among n d q l ks xs (h.0, (h.1.0, tt)) i.1.1))

pub deep_freed : (n q : ℕ) (ts : Trees) → IsDeep n 0 ts → IsDeep n 0 (detached ts q)
deep_freed n q ts h = deep_behind n 0 (subtree q ts) (without q ts) (deep_subtree n 0 q ts h) (deep_without n 0 q ts h)

pub deep_relabelled : (n d q : ℕ) (v : Label) (ts : Trees) → is_own (Some v) ≡ true → IsDeep n d ts → IsDeep n d (relabelled q v ts)
deep_relabelled n d q v End o h = tt
deep_relabelled n d q v (Node m l ks ts) o h = (λ e. by (eqb m q) (h.0 e), (deep_relabelled n (suc d) q v ks o h.1.0, deep_relabelled n d q v ts o h.1.1))
  where
    by : (c : Bool) → Fits l d → Fits (cond c v l) d
    by true k = inl o
    by false k = k

pub deep_within : (n d : ℕ) (ts : Trees) → IsWithin n 199 d ts → IsDeep n d ts
deep_within n d End h = tt
deep_within n d (Node m l ks ts) h = (λ e. inr (h.0 e), (deep_within n (suc d) ks h.1.0, deep_within n d ts h.1.1))

-- ## By the label that is found

abbrev pub OfLabel : Bool → Option Label → Type 0
OfLabel b None = Unit {0}
OfLabel b (Some l) = is_own (Some l) ≡ b

module _ (n : ℕ) (m : ℕ) (l : Label) (ks ts : Trees) where
  abbrev found : Bool → Trees
  found c = unwrap_or (cond c (Some (Node m l ks End)) (option_or (tree_of n ks) (tree_of n ts))) End

  in_rest : times n ks ≡ 0 → found false ≡ subtree n ts
  in_rest z = ap (λ u. unwrap_or (option_or u (tree_of n ts)) End) (none_there n ks z)

  in_children : times n ts ≡ 0 → found false ≡ subtree n ks
  in_children z = ap (λ u. unwrap_or (option_or (tree_of n ks) u) End) (none_there n ts z) ∙ ap (λ u. unwrap_or u End) (no_other (tree_of n ks))

pub deep_own : (n d : ℕ) (ts : Trees) → times n ts ≤ 1 → OfLabel true (label_of n ts) → IsDeep n d ts
deep_own n d End o h = tt
deep_own n d (Node m l ks ts) o h = by (eqb m n) o h (deep_own n (suc d) ks) (deep_own n d ts)
  where
    by : (c : Bool) → cond c 1 0 + (times n ks + times n ts) ≤ 1 → OfLabel true (first_label (found n m l ks ts c))
        → (times n ks ≤ 1 → OfLabel true (label_of n ks) → IsDeep n (suc d) ks) → (times n ts ≤ 1 → OfLabel true (label_of n ts) → IsDeep n d ts)
        → (c ≡ true → Fits l d) × (IsDeep n (suc d) ks × IsDeep n d ts)
    by true o h f g = let z = none_more (times n ks) (times n ts) o in (λ e. inl h, (deep_off n (suc d) ks z.0, deep_off n d ts z.1))
    by false o h f g = (λ e. absurd (clash e), either (parts_of false (times n ks) (times n ts) o))
      where
        either : Parts (times n ks) (times n ts) → IsDeep n (suc d) ks × IsDeep n d ts
        either (i, (j, inl z)) = (deep_off n (suc d) ks z, g j (subst (λ t. OfLabel true (first_label t)) (in_rest n m l ks ts z) h))
        either (i, (j, inr z)) = (f i (subst (λ t. OfLabel true (first_label t)) (in_children n m l ks ts z) h), deep_off n d ts z)

fits_low : (l : Label) (d : ℕ) → is_own (Some l) ≡ false → Fits l d → d ≤ 199
fits_low l d e (inl o) = absurd (clash (sym e ∙ o))
fits_low l d e (inr i) = i

pub within_other : (n d : ℕ) (ts : Trees) → times n ts ≤ 1 → IsDeep n d ts → OfLabel false (label_of n ts) → IsWithin n 199 d ts
within_other n d End o q h = tt
within_other n d (Node m l ks ts) o q h = by (eqb m n) o q.0 h (λ i. within_other n (suc d) ks i q.1.0) (λ i. within_other n d ts i q.1.1)
  where
    by : (c : Bool) → cond c 1 0 + (times n ks + times n ts) ≤ 1 → (c ≡ true → Fits l d) → OfLabel false (first_label (found n m l ks ts c))
        → (times n ks ≤ 1 → OfLabel false (label_of n ks) → IsWithin n 199 (suc d) ks) → (times n ts ≤ 1 → OfLabel false (label_of n ts) → IsWithin n 199 d ts)
        → (c ≡ true → d ≤ 199) × (IsWithin n 199 (suc d) ks × IsWithin n 199 d ts)
    by true o k h f g = let z = none_more (times n ks) (times n ts) o in (λ e. fits_low l d h (k refl), (within_off n 199 (suc d) ks z.0, within_off n 199 d ts z.1))
    by false o k h f g = (λ e. absurd (clash e), either (parts_of false (times n ks) (times n ts) o))
      where
        either : Parts (times n ks) (times n ts) → IsWithin n 199 (suc d) ks × IsWithin n 199 d ts
        either (i, (j, inl z)) = (within_off n 199 (suc d) ks z, g j (subst (λ t. OfLabel false (first_label t)) (in_rest n m l ks ts z) h))
        either (i, (j, inr z)) = (f i (subst (λ t. OfLabel false (first_label t)) (in_children n m l ks ts z) h), within_off n 199 d ts z)
