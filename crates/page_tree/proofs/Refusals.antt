-- When nodes may be put under a target.
use Rattle.std.proofs.Common.{◌≡◌, ℕ, suc, ◌+◌, ◌<◌, ◌≤◌, List, Bool, true, false, refl, sym, ap, ◌∙◌, subst, arith, Some, None, Option, Result, Ok, Err, inl, inr, ⊎_elim, length, [], ◌∷◌, eqb, ◌||◌, zero, get_or}
use Rattle.std.specs.Prelude.{slice_index, MatchBool, MatchResult, OnErr, OnOk}
use Rattle.std.specs.Result.{IsErrAnd}
use Rattle.std.proofs.lemmas.Bool.{or_cases, cases_lt}
use Rattle.code_units.specs.declared.owner.Owner.{Owner}
use Rattle.code_units.specs.declared.owner.Owner.TheVariants as owner
use Rattle.std.specs.List.{list_any}
use Rattle.std.specs.List.Sorted.{IsPermutation}
use Rattle.std.proofs.lemmas.List.Sorted.{list_any-IsPermutation}
use Rattle.page_tree.specs.declared.fault.PageFault.{PageFault}
use Rattle.page_tree.specs.declared.fault.PageFault.TheVariants as fault
use Rattle.plain_tree.specs.Trees.{height}
use Rattle.tree_ops.specs.Labels.{is_leaf, is_text}
use Rattle.tree_ops.specs.Trees.{has, is_number}
use Rattle.page_nodes.specs.Owners.{root_in}
use Rattle.page_tree.specs.Roots.{IsRooted}
use Rattle.page_nodes.specs.Entries.{Entry, at, body, listed, tree, limit, IsSound}
use Rattle.page_nodes.specs.Moves.{IsDepth, MayMoveAll, highest}
use Rattle.page_tree.specs.Pages.{MayPutAll, IsInside, IsNotInside, AreNotInside, IsLow, IsTooDeep, SomeNode, IsOwn, IsNotOwn, IsOpen, IsNotOpen, MayNotPutAll, RefusesAll, RefusesReplaceFirst}
use Rattle.page_nodes.proofs.Lists.{or_none}
use Rattle.page_nodes.proofs.Owners.{same_is}
use Rattle.page_tree.proofs.Numbers.{number_not}
use Rattle.page_nodes.proofs.Shows.{tree_low, tree_lower}
use Rattle.page_nodes.proofs.Upward.{level_height}

-- `body` is a root
pub not_body : (k : List Entry) (roots : List (Option ℕ)) → IsSound k → IsRooted k roots → (n : ℕ) → (root_in roots (at k n).owner ≡ Some n → ⊥) → n ≡ body → ⊥
not_body k roots s r n free e = free (ap (λ x. root_in roots (at k x).owner) e ∙ ap (root_in roots) (same_is (at k body).owner owner.Host s.host) ∙ r.host ∙ ap (λ y. Some y) (sym e))

pub depth_low : (k : List Entry) (t d : ℕ) → IsDepth k t d → d ≤ suc limit
depth_low k t d h = ⊎_elim (λ b. omega (arith, b.1)) (λ x. omega (arith, x.2, level_height t (tree k (x.0)), tree_low k (x.0))) h.reached

-- one node by its depth and its height
pub put_low : (k : List Entry) (t n d : ℕ) → IsDepth k t d → d + height (tree k n) ≤ limit → IsLow k t n
put_low k t n d h le x ne = omega (arith, h.most x ne, le)

pub put_deep : (k : List Entry) (t n d : ℕ) → IsSound k → (n ≡ body → ⊥) → IsDepth k t d → limit < d + height (tree k n) → IsTooDeep k t n
put_deep k t n d s ne h lt = ⊎_elim (λ b. absurd (omega (arith, b.1, lt, tree_lower k s n ne))) (λ x. (x.0, x.1, omega (arith, x.2, lt))) h.reached

pub depth_lower : (k : List Entry) (t d : ℕ) → IsSound k → IsDepth k t d → d ≤ limit
depth_lower k t d s h = ⊎_elim (λ b. omega (arith, b.1)) (λ x. omega (arith, x.2, level_height t (tree k (x.0)), tree_lower k s (x.0) (x.1))) h.reached

-- no tree is higher than the highest, and one is as high
pub highest_low : (k : List Entry) (ns : List ℕ) → highest k ns ≤ suc limit
highest_low k [] = omega arith
highest_low k (n ∷ ns) = omega (arith, tree_low k n, highest_low k ns)

height_most : (k : List Entry) (ns : List ℕ) (i : ℕ) → i < length ns → height (tree k (slice_index ns i)) ≤ highest k ns
height_most k [] i lt = absurd (omega (arith, lt))
height_most k (n ∷ ns) zero lt = omega arith
height_most k (n ∷ ns) (suc i) lt = omega (arith, height_most k ns i (omega (arith, lt)))

height_reached : (k : List Entry) (ns : List ℕ) (d : ℕ) → d ≤ limit → limit < d + highest k ns → (i : ℕ) × (i < length ns) × (limit < d + height (tree k (slice_index ns i)))
height_reached k [] d le lt = absurd (omega (arith, le, lt))
height_reached k (n ∷ ns) d le lt = ⊎_elim
    (λ here. (0, omega arith, here))
    (λ low. let r = height_reached k ns d le (omega (arith, low, lt)) in (suc (r.0), omega (arith, r.1), r.2))
    (cases_lt limit (d + height (tree k n)))

-- all nodes by the highest
pub all_low : (k : List Entry) (t d : ℕ) (ns : List ℕ) → IsDepth k t d → d + highest k ns ≤ limit → (i : ℕ) → i < length ns → IsLow k t (slice_index ns i)
all_low k t d ns h le i lt = put_low k t (slice_index ns i) d h (omega (arith, le, height_most k ns i lt))

pub some_deep : (k : List Entry) (t d : ℕ) (ns : List ℕ) → IsSound k → ((i : ℕ) → i < length ns → slice_index ns i ≡ body → ⊥) → IsDepth k t d → limit < d + highest k ns → SomeNode ns (IsTooDeep k t)
some_deep k t d ns s other h lt =
    let r = height_reached k ns d (depth_lower k t d s h) lt in
    (r.0, r.1, put_deep k t (slice_index ns (r.0)) d s (other (r.0) (r.1)) h (r.2))

-- a target by its depth
pub opened : (k : List Entry) (t d h : ℕ) → is_leaf (at k t).label ≡ false → IsDepth k t d → d + h ≤ limit → IsOpen k t h
opened k t d h leaf depth le = (leaf, (d, depth, le))

none_within : (f : ℕ → Bool) (ns : List ℕ) → list_any f ns ≡ false → (i : ℕ) → i < length ns → f (slice_index ns i) ≡ false
none_within f [] e i lt = absurd (omega (arith, lt))
none_within f (n ∷ ns) e zero lt = (or_none (f n) (list_any f ns) e).0
none_within f (n ∷ ns) e (suc i) lt = none_within f ns ((or_none (f n) (list_any f ns) e).1) i (omega (arith, lt))

-- nodes that have the targets' owner and no target in their trees, and open targets
pub all_taken : (k : List Entry) (root : Owner → Option ℕ) (o : Owner) (ts ns os : List ℕ) (h : ℕ) (b : Bool)
    → ((j : ℕ) → j < length ts → (at k (slice_index ts j)).owner ≡ o)
    → ((i : ℕ) → i < length ns → IsOwn k root o (slice_index ns i))
    → IsPermutation ns os → list_any (λ t. list_any (λ n. has t (tree k n)) os) ts ≡ false
    → IsSound k → ((i : ℕ) → i < length ns → slice_index ns i ≡ body → ⊥) → h ≡ highest k ns
    → MatchBool b ((j : ℕ) → j < length ts → IsOpen k (slice_index ts j) h) (SomeNode ts (λ t. IsNotOpen k t h))
    → MatchBool b ((j : ℕ) → j < length ts → MayPutAll k root (slice_index ts j) ns) (SomeNode ts (MayNotPutAll k root ns))
all_taken k root o ts ns os h true owned own perm none s other e free = λ j lt.
    let t = slice_index ts j in
    let here = free j lt in
    record {
      open_target = here.0;
      inside = λ i l. record {
        apart = none_within (λ n. has t (tree k n)) ns (list_any-IsPermutation (λ n. has t (tree k n)) ns os perm ∙ none_within (λ u. list_any (λ n. has u (tree k n)) os) ts none j lt) i l;
        owner = (own i l).0 ∙ sym (owned j lt);
        no_root = (own i l).1;
      };
      low = all_low k t (here.1.0) ns (here.1.1) (omega (arith, here.1.2, e));
    }
all_taken k root o ts ns os h false owned own perm none s other e shut = (
  shut.0,
  shut.1,
  ⊎_elim
      (λ leaf. inl (inl leaf))
      (λ deep. inr (some_deep k (slice_index ts (shut.0)) (deep.0) ns s other (deep.1) (omega (arith, deep.2, e))))
      (shut.2),
)

-- a target stands in the tree of one of them
pub some_above : (k : List Entry) (root : Owner → Option ℕ) (ts ns os : List ℕ) → IsPermutation ns os → list_any (λ t. list_any (λ n. has t (tree k n)) os) ts ≡ true → SomeNode ts (MayNotPutAll k root ns)
some_above k root ts ns os perm e =
    let j = found (λ t. list_any (λ n. has t (tree k n)) os) ts e in
    let t = slice_index ts (j.0) in
    let i = found (λ n. has t (tree k n)) ns (list_any-IsPermutation (λ n. has t (tree k n)) ns os perm ∙ j.2) in
    (j.0, j.1, inl (inr (i.0, i.1, inl (i.2))))
  where
    found : (f : ℕ → Bool) (xs : List ℕ) → list_any f xs ≡ true → (i : ℕ) × (i < length xs) × (f (slice_index xs i) ≡ true)
    found f [] h = cc
    found f (x ∷ xs) h = ⊎_elim (λ q. (0, omega arith, q)) (λ q. let r = found f xs q in (suc (r.0), omega (arith, r.1), r.2)) (or_cases (f x) (list_any f xs) h)

-- one of the nodes is the target or above it
pub some_within : (k : List Entry) (root : Owner → Option ℕ) (t : ℕ) (ns : List ℕ) → list_any (λ n. has t (tree k n)) ns ≡ true → MatchBool false ((i : ℕ) → i < length ns → IsInside k root t (slice_index ns i)) (SomeNode ns (IsNotInside k root t))
some_within k root t ns e = of ns e
  where
    of : (ms : List ℕ) → list_any (λ n. has t (tree k n)) ms ≡ true → SomeNode ms (IsNotInside k root t)
    of [] h = cc
    of (m ∷ ms) h = ⊎_elim (λ q. (0, omega arith, inl q)) (λ q. let r = of ms q in (suc (r.0), omega (arith, r.1), r.2)) (or_cases (has t (tree k m)) (list_any (λ n. has t (tree k n)) ms) h)

-- none of them is, and the others are judged by their owner
pub all_inside : (k : List Entry) (root : Owner → Option ℕ) (t : ℕ) (ns : List ℕ) (o : Owner) (b : Bool) → o ≡ (at k t).owner → list_any (λ n. has t (tree k n)) ns ≡ false
    → MatchBool b ((i : ℕ) → i < length ns → IsOwn k root o (slice_index ns i)) (SomeNode ns (IsNotOwn k root o)) → MatchBool b ((i : ℕ) → i < length ns → IsInside k root t (slice_index ns i)) (SomeNode ns (IsNotInside k root t))
all_inside k root t ns o true e none own = λ i lt. record { apart = none_within (λ n. has t (tree k n)) ns none i lt; owner = (own i lt).0 ∙ e; no_root = (own i lt).1 }
all_inside k root t ns o false e none some = (some.0, some.1, inr (⊎_elim (λ ne. inl (λ h. ne (h ∙ sym e))) (λ r. inr r) (some.2)))

pub inside : (k : List Entry) (root : Owner → Option ℕ) (t n : ℕ) → IsInside k root t n → IsNotInside k root t n → ⊥
inside k root t n h d = ⊎_elim (λ e. true_false (sym e ∙ h.apart)) (λ f. ⊎_elim (λ ne. ne h.owner) (λ e. h.no_root e) f) d
  where
    true_false : true ≡ false → ⊥
    true_false e = cc

-- of all nodes
pub none_outside : (k : List Entry) (root : Owner → Option ℕ) (t : ℕ) (ns : List ℕ) → is_leaf (at k t).label ≡ false → ((i : ℕ) → i < length ns → IsInside k root t (slice_index ns i)) → AreNotInside k root t ns → ⊥
none_outside k root t ns takes all h = ⊎_elim (λ e. true_false (sym e ∙ takes)) (λ x. inside k root t (slice_index ns (x.0)) (all (x.0) (x.1)) (x.2)) h
  where
    true_false : true ≡ false → ⊥
    true_false e = cc

text_is_leaf : (k : List Entry) (t : ℕ) → is_leaf (at k t).label ≡ false → is_text (at k t).label ≡ false
text_is_leaf k t h = grind arith

-- what may be put may be moved
pub may_move : (k : List Entry) (roots : List (Option ℕ)) (t : ℕ) (ns : List ℕ) → IsSound k → IsRooted k roots → MayPutAll k (root_in roots) t ns → MayMoveAll k t ns
may_move k roots t ns s r may i lt =
    let a = may.inside i lt in
    record {
      other = not_body k roots s r (slice_index ns i) a.no_root;
      apart = a.apart;
      owner = a.owner;
      low = may.low i lt;
      takes = text_is_leaf k t may.open_target;
    }

-- a fault that is handed on
pub handed_on : {T : Type 0} (Q : T → Type 0) (P : PageFault → Type 0) (r : Result T PageFault) (f : PageFault) → IsErrAnd r (λ e. e ≡ f) → P f → MatchResult r Q P
handed_on Q P (Ok x) f h p = absurd h
handed_on Q P (Err e) f h p = subst P (sym h) p

-- what may not be put under the parent may not replace
pub refuses_parent : (k : List Entry) (root : Owner → Option ℕ) (t n : ℕ) (ns : List ℕ) (f : PageFault) → (at k n).parent ≡ Some t → is_number n (root (at k n).owner) ≡ false → listed n ns ≡ false → RefusesAll k root t ns f → RefusesReplaceFirst k root n ns f
refuses_parent k root t n ns fault.NotInside u r l h = inr (inr (inr (t, u, h)))
refuses_parent k root t n ns fault.TooDeep u r l h = (
  λ d. ⊎_elim
      (λ e. number_not n _ r e)
      (λ d2. ⊎_elim
      (λ e. none_some t (sym e ∙ u))
      (λ d3. ⊎_elim
      (λ e. true_false (sym e ∙ l))
      (λ x. h.0 (subst (λ y. AreNotInside k root y ns) (some_is (x.0) t (sym (x.1) ∙ u)) (x.2)))
      d3)
      d2)
      d,
  (t, u, h.1),
)
  where
    none_some : (p : ℕ) → ◌≡◌ {A = Option ℕ} None (Some p) → ⊥
    none_some p e = cc

    some_is : (a b : ℕ) → Some a ≡ Some b → a ≡ b
    some_is a b e = cc

    true_false : true ≡ false → ⊥
    true_false e = cc
refuses_parent k root t n ns fault.Memory u r l h = h
refuses_parent k root t n ns (fault.Nodes kept) u r l h = h

listed_any : (n : ℕ) (xs : List ℕ) → list_any (λ y. eqb y n) xs ≡ listed n xs
listed_any n [] = refl
listed_any n (x ∷ xs) = ap (λ b. eqb x n || b) (listed_any n xs)

pub not_any : (n : ℕ) (xs : List ℕ) (b : Bool) → b ≡ list_any (λ y. eqb y n) xs → b ≡ false → listed n xs ≡ false
not_any n xs b e h = sym (listed_any n xs) ∙ sym e ∙ h

pub is_any : (n : ℕ) (xs : List ℕ) (b : Bool) → b ≡ list_any (λ y. eqb y n) xs → b ≡ true → listed n xs ≡ true
is_any n xs b e h = sym (listed_any n xs) ∙ sym e ∙ h

-- a number that is not listed is at no place
pub at_no_place : (n : ℕ) (ns : List ℕ) → listed n ns ≡ false → (i : ℕ) → i < length ns → eqb (get_or ns i 0) n ≡ false
at_no_place n [] h i lt = absurd (omega (arith, lt))
at_no_place n (m ∷ ns) h zero lt = (or_none (eqb m n) (listed n ns) h).0
at_no_place n (m ∷ ns) h (suc i) lt = at_no_place n ns ((or_none (eqb m n) (listed n ns) h).1) i (omega (arith, lt))

-- what a page keeps, it keeps after a call that did its work or left all as it was
pub either_way : {T E : Type 0} (r : Result T E) (P : List Entry → Type 0) (Q : Type 0) (k m : List Entry) → P k → (Q → P m) → OnOk r Q → OnErr r (m ≡ k) → P m
either_way (Ok x) P Q k m p f q e = f q
either_way (Err x) P Q k m p f q e = subst P (sym e) p
