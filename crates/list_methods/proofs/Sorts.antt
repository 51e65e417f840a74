-- Two lists in order that keep the order of ties are one; so the sort of std is the meaning's.
use Rattle.std.proofs.Common.{◌≡◌, ℕ, zero, suc, ◌+◌, Bool, true, false, cond, List, [], ◌∷◌, Option, Some, None, refl, sym, ap, ◌∙◌, subst, arith, filter, map}
use Rattle.std.proofs.Common.{Ordering}
use Rattle.std.specs.Prelude.{get_or, not, ◌&&◌}
use Rattle.std.specs.Ordering.{is_lt, nat_cmp}
use Rattle.std.specs.Cmp.Lexicographic.{slice_cmp}
use Rattle.std.proofs.lemmas.Bool.Decides.{nat_tests}
use Rattle.std.proofs.lemmas.Cmp.{same_from_slice_cmp}
use Rattle.widget_meaning.specs.Operators.{is_text_before}
use Rattle.std.specs.Cmp.{IsStrictWeakOrder}
use Rattle.std.specs.List.{AllByRecursion}
use Rattle.std.specs.List.Sorted.{IsPermutation, IsSortedBy, IsStableBy, ties}
use Rattle.std.proofs.lemmas.List.Sorted.{All-permutation}
use Rattle.store_cells.specs.declared.value.Value.{Value as StoreValue}
use Rattle.store_cells.specs.declared.value.Value.TheVariants as value
use Rattle.store_cells.specs.Cells.{PlainCell}
use Rattle.widget_meaning.specs.Values.{Value, Undefined, Text}
use Rattle.widget_meaning.specs.ListChanges.{is_before, is_key_before, sort_key, sorted}
use Rattle.widget_meaning.proofs.SortHolds.{order, sort_laws}
use Rattle.js_image.specs.Held.{AreFine, IsFine}
use Rattle.js_image.specs.Image.{all_seen, seen}
use Rattle.list_methods.specs.declared.sorting.Keyed.{Keyed}
use Rattle.list_methods.specs.Sorting.{IsKeyed, comes_before}
use Rattle.list_methods.proofs.Lists.{at_places, one_by_one}

nothing : {X : Type 0} {x : X} {xs : List X} → [] ≡ x ∷ xs → ⊥
nothing h = cc

head_same : {X : Type 0} (x y : X) (xs ys : List X) → x ∷ xs ≡ y ∷ ys → x ≡ y
head_same x y xs ys h = cc

tail_same : {X : Type 0} (x y : X) (xs ys : List X) → x ∷ xs ≡ y ∷ ys → xs ≡ ys
tail_same x y xs ys h = cc

module _ {X : Type 0} (lt : X → X → Bool) (o : IsStrictWeakOrder lt) where
  -- each element does not come before those in front of it
  abbrev Rises : List X → Type 0
  Rises [] = Unit {0}
  Rises (x ∷ xs) = AllByRecursion (λ y. lt y x ≡ false) xs × Rises xs

  behind : (x y : X) → lt y x ≡ false → (zs : List X) → AllByRecursion (λ z. lt z y ≡ false) zs → AllByRecursion (λ z. lt z x ≡ false) zs
  behind x y h [] g = tt
  behind x y h (z ∷ zs) g = (o.chain z y x g.0 h, behind x y h zs g.1)

  one_more : (k : ℕ) → suc k + 1 ≡ suc (k + 1)
  one_more k = omega arith

  rises : (xs : List X) → IsSortedBy lt xs → Rises xs
  rises [] h = tt
  rises (x ∷ []) h = (tt, tt)
  rises (x ∷ y ∷ ys) h =
      let r = rises (y ∷ ys) (λ k d low b. subst (λ i. lt (get_or (x ∷ y ∷ ys) i d) (get_or (y ∷ ys) k d) ≡ false) (one_more k) (h (suc k) d (omega arith) (omega (arith, b)))) in
      let first : lt y x ≡ false = h 0 x (omega arith) (omega arith) in
      ((first, behind x y first ys r.0), r)

  same_not : (x : X) → lt x x ≡ false
  same_not x = by (lt x x) refl
    where
      false_true : false ≡ true → ⊥
      false_true h = cc

      by : (b : Bool) → lt x x ≡ b → b ≡ false
      by false e = refl
      by true e = absurd (false_true (sym (o.one_way x x e) ∙ e))

  ties_both : (x y : X) → lt x y ≡ false → lt y x ≡ false → ties lt x y ≡ true
  ties_both x y e f = λ j. not (e j) && not (f j)

  all_filtered : (P : X → Type 0) (p : X → Bool) (xs : List X) → AllByRecursion P xs → AllByRecursion P (filter p xs)
  all_filtered P p [] h = tt
  all_filtered P p (x ∷ xs) h = by (p x) (all_filtered P p xs h.1)
    where
      by : (b : Bool) → AllByRecursion P (filter p xs) → AllByRecursion P (cond b (x ∷ filter p xs) (filter p xs))
      by true g = (h.0, g)
      by false g = g

  -- the first of a list is among those that tie with it
  first_tie : (y : X) (ys : List X) → filter (ties lt y) (y ∷ ys) ≡ y ∷ filter (ties lt y) ys
  first_tie y ys = ap (λ b. cond b (y ∷ filter (ties lt y) ys) (filter (ties lt y) ys)) (ties_both y y (same_not y) (same_not y))

  low : (y z : X) (ys zs : List X) → Rises (z ∷ zs) → filter (ties lt y) (y ∷ ys) ≡ filter (ties lt y) (z ∷ zs) → lt y z ≡ false
  low y z ys zs r h = (subst (AllByRecursion (λ m. lt m z ≡ false)) (sym h ∙ first_tie y ys) (all_filtered (λ m. lt m z ≡ false) (ties lt y) (z ∷ zs) (same_not z, r.0))).0

  strip : (b : Bool) (y : X) (xs bs : List X) → cond b (y ∷ xs) xs ≡ cond b (y ∷ bs) bs → xs ≡ bs
  strip true y xs bs h = tail_same y y xs bs h
  strip false y xs bs h = h

  pub one_order : (ys zs : List X) → Rises ys → Rises zs → ((x : X) → filter (ties lt x) ys ≡ filter (ties lt x) zs) → ys ≡ zs
  one_order [] [] r s h = refl
  one_order [] (z ∷ zs) r s h = absurd (nothing (h z ∙ first_tie z zs))
  one_order (y ∷ ys) [] r s h = absurd (nothing (sym (h y) ∙ first_tie y ys))
  one_order (y ∷ ys) (z ∷ zs) r s h =
      let a : lt y z ≡ false = low y z ys zs s (h y) in
      let b : lt z y ≡ false = low z y zs ys r (sym (h z)) in
      let t : filter (ties lt y) (z ∷ zs) ≡ z ∷ filter (ties lt y) zs = ap (λ c. cond c (z ∷ filter (ties lt y) zs) (filter (ties lt y) zs)) (ties_both y z a b) in
      let e : y ≡ z = head_same y z (filter (ties lt y) ys) (filter (ties lt y) zs) (sym (first_tie y ys) ∙ h y ∙ t) in
      let rest : ys ≡ zs = one_order ys zs r.1 s.1 (λ x. strip (ties lt x y) y (filter (ties lt x) ys) (filter (ties lt x) zs) (h x ∙ (λ j. cond (ties lt x (sym e j)) (sym e j ∷ filter (ties lt x) zs) (filter (ties lt x) zs)))) in
      λ j. e j ∷ rest j

-- elements with keys, and the values that they have
module _ (w : ℕ) (cells : List PlainCell) where
  abbrev shown : Keyed → Value
  shown k = seen w cells k.value

  filter_shown : (p : Value → Bool) (q : Keyed → Bool) (ks : List Keyed) → AllByRecursion (λ k. p (shown k) ≡ q k) ks → filter p (map shown ks) ≡ map shown (filter q ks)
  filter_shown p q [] h = refl
  filter_shown p q (k ∷ ks) h = ap (λ b. cond b (shown k ∷ filter p (map shown ks)) (filter p (map shown ks))) h.0 ∙ by (q k) (filter_shown p q ks h.1)
    where
      by : (b : Bool) → filter p (map shown ks) ≡ map shown (filter q ks) → cond b (shown k ∷ filter p (map shown ks)) (filter p (map shown ks)) ≡ map shown (cond b (k ∷ filter q ks) (filter q ks))
      by true g = ap (λ l. shown k ∷ l) g
      by false g = g

  keyed_ties : (x : Value) (v : StoreValue) (ks : List Keyed) → AllByRecursion IsKeyed ks → AllByRecursion (λ k. ties is_before x (shown k) ≡ ties comes_before (record { key = sort_key x; value = v }) k) ks
  keyed_ties x v [] h = tt
  keyed_ties x v (k ∷ ks) h = (
    (λ j. not (is_key_before (sort_key x) (sym (h.0 w cells) j)) && not (is_key_before (sym (h.0 w cells) j) (sort_key x))),
    keyed_ties x v ks h.1,
  )

  seen_of : (ks : List Keyed) → all_seen w cells (map (λ k. k.value) ks) ≡ map shown ks
  seen_of [] = refl
  seen_of (k ∷ ks) = ap (λ l. shown k ∷ l) (seen_of ks)

  sorted_shown : (ks : List Keyed) → AllByRecursion IsKeyed ks → IsSortedBy comes_before ks → IsSortedBy is_before (map shown ks)
  sorted_shown [] h s k d low b = absurd (omega (arith, b))
  sorted_shown (x ∷ []) h s k d low b = absurd (omega (arith, b))
  sorted_shown (x ∷ y ∷ ks) h s zero d low b = (λ j. is_key_before (sym (h.1.0 w cells) j) (sym (h.0 w cells) j)) ∙ s 0 x (omega arith) (omega arith)
  sorted_shown (x ∷ y ∷ ks) h s (suc k) d low b =
      let more : (k : ℕ) → suc k + 1 ≡ suc (k + 1) = λ k. omega arith in
      rw (more k) (sorted_shown (y ∷ ks) h.1 (λ i e low c. subst (λ m. comes_before (get_or (x ∷ y ∷ ks) m e) (get_or (y ∷ ks) i e) ≡ false) (more i) (s (suc i) e (omega arith) (omega (arith, c)))) k d (omega arith) (omega (arith, b)))

  -- what the sort leaves
  pub sorted_is : (old new : List Keyed) → AllByRecursion IsKeyed old → IsPermutation old new → IsSortedBy comes_before new → IsStableBy comes_before old new
      → all_seen w cells (map (λ k. k.value) new) ≡ sorted (all_seen w cells (map (λ k. k.value) old))
  sorted_is old new keyed same rising stable =
      let again : AllByRecursion IsKeyed new = one_by_one IsKeyed new (All-permutation IsKeyed old new same (at_places IsKeyed old keyed)) in
      let vs : List Value = map shown old in
      seen_of new
      ∙ one_order is_before order (map shown new) (sorted vs)
      (rises is_before order (map shown new) (sorted_shown new again rising))
      (rises is_before order (sorted vs) (sort_laws vs).rising)
      (λ x. filter_shown (ties is_before x) (ties comes_before (record { key = sort_key x; value = value.Undefined })) new (keyed_ties x value.Undefined new again)
      ∙ ap (map shown) (stable (record { key = sort_key x; value = value.Undefined }))
      ∙ sym (filter_shown (ties is_before x) (ties comes_before (record { key = sort_key x; value = value.Undefined })) old (keyed_ties x value.Undefined old keyed))
      ∙ sym ((sort_laws vs).stable x))
      ∙ ap sorted (sym (seen_of old))

  fine_each : (ks : List Keyed) → AreFine w cells (map (λ k. k.value) ks) → AllByRecursion (λ k. IsFine w cells k.value) ks
  fine_each [] h = tt
  fine_each (k ∷ ks) h = (h.0, fine_each ks h.1)

  each_fine : (ks : List Keyed) → AllByRecursion (λ k. IsFine w cells k.value) ks → AreFine w cells (map (λ k. k.value) ks)
  each_fine [] h = tt
  each_fine (k ∷ ks) h = (h.0, each_fine ks h.1)

  pub sorted_fine : (old new : List Keyed) → IsPermutation old new → AreFine w cells (map (λ k. k.value) old) → AreFine w cells (map (λ k. k.value) new)
  sorted_fine old new same h = each_fine new (one_by_one (λ k. IsFine w cells k.value) new (All-permutation (λ k. IsFine w cells k.value) old new same (at_places (λ k. IsFine w cells k.value) old (fine_each old h))))

-- the order of keys is one
abbrev keyed_by : Option (List ℕ) → Value
keyed_by None = Undefined
keyed_by (Some t) = Text t

key_is : (a : Option (List ℕ)) → sort_key (keyed_by a) ≡ a
key_is None = refl
key_is (Some t) = refl

pub key_order : IsStrictWeakOrder comes_before
key_order = record {
  one_way = λ a b h. (λ j. is_key_before (sym (key_is b.key) j) (sym (key_is a.key) j)) ∙ order.one_way (keyed_by a.key) (keyed_by b.key) ((λ j. is_key_before (key_is a.key j) (key_is b.key j)) ∙ h);
  chain = λ a b c g h. (λ j. is_key_before (sym (key_is a.key) j) (sym (key_is c.key) j)) ∙ order.chain (keyed_by a.key) (keyed_by b.key) (keyed_by c.key) ((λ j. is_key_before (key_is a.key j) (key_is b.key j)) ∙ g) ((λ j. is_key_before (key_is b.key j) (key_is c.key j)) ∙ h);
}

-- a text comes before another as its units do
pub before_is : (t u : List ℕ) (r : Ordering) → r ≡ slice_cmp nat_cmp t u → is_lt r ≡ is_text_before t u
before_is = same_from_slice_cmp nat_cmp is_lt is_text_before refl (λ _ _. refl) (λ _ _. refl) (λ x y xs ys o h. grind (arith, nat_tests))
