-- The first and the last of the places at which a text stands, as a list has them.
use Rattle.std.proofs.Common.{◌≡◌, ℕ, zero, suc, ◌+◌, ◌<◌, ◌≤◌, List, [], ◌∷◌, length, Bool, true, false, cond, Option, Some, None, refl, sym, ap, ◌∙◌, arith, slice_get, inl, inr}
use Rattle.std.specs.Prelude.{◌&&◌, nat_le}
use Rattle.std.specs.List.{filter, last_or, range_with_len}
use Rattle.std.proofs.lemmas.Bool.{cases_lt}
use Rattle.std.proofs.lemmas.Bool.Decides.{nat_tests}
use Rattle.text_search.specs.Places.{IsFirst, IsLast, places, stands}

merged_by : {X : Type 0} (p q : X → Bool) (x : X) (xs : List X) (a : Bool) → filter p (filter q xs) ≡ filter (λ y. q y && p y) xs → filter p (cond a (x ∷ filter q xs) (filter q xs)) ≡ cond (a && p x) (x ∷ filter (λ y. q y && p y) xs) (filter (λ y. q y && p y) xs)
merged_by p q x xs true h = ap (λ l. cond (p x) (x ∷ l) l) h
merged_by p q x xs false h = h

-- what two tests keep, one after the other
merged : {X : Type 0} (p q : X → Bool) (xs : List X) → filter p (filter q xs) ≡ filter (λ x. q x && p x) xs
merged p q [] = refl
merged p q (x ∷ xs) = merged_by p q x xs (q x) (merged p q xs)

-- none passes
none_of : (q : ℕ → Bool) (a m : ℕ) → ((k : ℕ) → a ≤ k → k < a + m → q k ≡ false) → filter q (range_with_len a m) ≡ []
none_of q a zero none = refl
none_of q a (suc m) none =
    ap (λ b. cond b (a ∷ filter q (range_with_len (a + 1) m)) (filter q (range_with_len (a + 1) m))) (none a (omega arith) (omega arith))
    ∙ none_of q (a + 1) m (λ k le lt. none k (omega (arith, le)) (omega (arith, lt)))

-- the first that passes
first_of : (q : ℕ → Bool) (a m i : ℕ) → a ≤ i → i < a + m → q i ≡ true → ((k : ℕ) → a ≤ k → k < i → q k ≡ false) → slice_get (filter q (range_with_len a m)) 0 ≡ Some i
first_of q a zero i le lt sure none = absurd (omega (arith, le, lt))
first_of q a (suc m) i le lt sure none = elim (cases_lt a i) [
  | inl less ↦
      ap (λ b. slice_get (cond b (a ∷ filter q (range_with_len (a + 1) m)) (filter q (range_with_len (a + 1) m))) 0) (none a (omega arith) less)
      ∙ first_of q (a + 1) m i (omega (arith, less)) (omega (arith, lt)) sure (λ k more fewer. none k (omega (arith, more)) fewer)
  | inr least ↦
      (let e : i ≡ a = omega (arith, le, least) in
      ap (λ b. slice_get (cond b (a ∷ filter q (range_with_len (a + 1) m)) (filter q (range_with_len (a + 1) m))) 0) (ap q (sym e) ∙ sure) ∙ ap Some (sym e))
]

-- the last that passes
last_by : (q : ℕ → Bool) (a m i : ℕ) (o : Option ℕ) (b : Bool) → ((p : Option ℕ) → last_or p (filter q (range_with_len (a + 1) m)) ≡ Some i) → last_or o (cond b (a ∷ filter q (range_with_len (a + 1) m)) (filter q (range_with_len (a + 1) m))) ≡ Some i
last_by q a m i o true h = h (Some a)
last_by q a m i o false h = h o

last_of : (q : ℕ → Bool) (a m i : ℕ) (o : Option ℕ) → a ≤ i → i < a + m → q i ≡ true → ((k : ℕ) → i < k → k < a + m → q k ≡ false) → last_or o (filter q (range_with_len a m)) ≡ Some i
last_of q a zero i o le lt sure none = absurd (omega (arith, le, lt))
last_of q a (suc m) i o le lt sure none = elim (cases_lt a i) [
  | inl less ↦ last_by q a m i o (q a) (λ p. last_of q (a + 1) m i p (omega (arith, less)) (omega (arith, lt)) sure (λ k more fewer. none k more (omega (arith, fewer))))
  | inr least ↦
      (let e : i ≡ a = omega (arith, le, least) in
      ap (λ b. last_or o (cond b (a ∷ filter q (range_with_len (a + 1) m)) (filter q (range_with_len (a + 1) m)))) (ap q (sym e) ∙ sure)
      ∙ ap (last_or (Some a)) (none_of q (a + 1) m (λ k more fewer. none k (omega (arith, more, e)) (omega (arith, fewer))))
      ∙ ap Some (sym e))
]

and_true : (a b : Bool) → a ≡ true → b ≡ true → (a && b) ≡ true
and_true a b h k = ap (λ x. x && b) h ∙ k

and_left : (a b : Bool) → a ≡ false → (a && b) ≡ false
and_left a b h = ap (λ x. x && b) h

and_right : (a b : Bool) → b ≡ false → (a && b) ≡ false
and_right true b h = h
and_right false b h = refl

le_yes : (n m : ℕ) → n ≤ m → nat_le n m ≡ true
le_yes n m h = grind (arith, nat_tests, h)

le_no : (n m : ℕ) → m < n → nat_le n m ≡ false
le_no n m h = grind (arith, nat_tests, h)

module _ (t x : List ℕ) where
  before_from : (from k : ℕ) → (from ≤ k → stands t x k ≡ false) → (stands t x k && nat_le from k) ≡ false
  before_from from k h = elim (cases_lt k from) [
    | inl less ↦ and_right (stands t x k) (nat_le from k) (le_no from k less)
    | inr more ↦ and_left (stands t x k) (nat_le from k) (h more)
  ]

  -- the first from a place on
  pub first_is : (from : ℕ) (o : Option ℕ) → IsFirst t x from o → o ≡ slice_get (filter (nat_le from) (places t x)) 0
  first_is from (Some i) h =
      sym (ap (λ l. slice_get l 0) (merged (nat_le from) (stands t x) (range_with_len 0 (length t + 1)))
      ∙ first_of (λ k. stands t x k && nat_le from k) 0 (length t + 1) i (omega arith) (omega (arith, h.1.within)) (and_true (stands t x i) (nat_le from i) h.1.here (le_yes from i h.0))
      (λ k more fewer. before_from from k (λ least. h.2 k least fewer)))
  first_is from None h =
      sym (ap (λ l. slice_get l 0) (merged (nat_le from) (stands t x) (range_with_len 0 (length t + 1))
      ∙ none_of (λ k. stands t x k && nat_le from k) 0 (length t + 1) (λ k more fewer. before_from from k (λ least. h k least (omega (arith, fewer))))))

  past_to : (to k : ℕ) → (k ≤ to → stands t x k ≡ false) → (stands t x k && nat_le k to) ≡ false
  past_to to k h = elim (cases_lt to k) [
    | inl less ↦ and_right (stands t x k) (nat_le k to) (le_no k to less)
    | inr more ↦ and_left (stands t x k) (nat_le k to) (h more)
  ]

  -- the last up to a place
  pub last_is : (to : ℕ) (o : Option ℕ) → IsLast t x to o → o ≡ last_or None (filter (λ k. nat_le k to) (places t x))
  last_is to (Some i) h =
      sym (ap (last_or None) (merged (λ k. nat_le k to) (stands t x) (range_with_len 0 (length t + 1)))
      ∙ last_of (λ k. stands t x k && nat_le k to) 0 (length t + 1) i None (omega arith) (omega (arith, h.1.within)) (and_true (stands t x i) (nat_le i to) h.1.here (le_yes i to h.0))
      (λ k more fewer. past_to to k (λ most. h.2 k (omega (arith, more)) (omega (arith, most)))))
  last_is to None h =
      sym (ap (last_or None) (merged (λ k. nat_le k to) (stands t x) (range_with_len 0 (length t + 1))
      ∙ none_of (λ k. stands t x k && nat_le k to) 0 (length t + 1) (λ k more fewer. past_to to k (λ most. h k (omega arith) (omega (arith, most))))))
