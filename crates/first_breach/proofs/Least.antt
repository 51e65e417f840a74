-- A set of breaches without a first one has none.
use Rattle.std.proofs.Common.{◌≡◌, ℕ, zero, suc, ◌<◌, ◌≤◌, refl, sym, subst, inl, inr, ◌⊎◌, Bool, true, false, nat_lt, arith}
use Rattle.std.proofs.lemmas.Bool.{ltb-true, ltb-false}
use Rattle.first_breach.specs.Breaches.{NoLater, IsFirst, IsClean}

-- the order is total
pub order : (p q : ℕ) → (p < q) ⊎ ((q < p) ⊎ (p ≡ q))
order p q = by (nat_lt p q) refl (nat_lt q p) refl
  where
    by : (a : Bool) → nat_lt p q ≡ a → (b : Bool) → nat_lt q p ≡ b → (p < q) ⊎ ((q < p) ⊎ (p ≡ q))
    by true e b f = inl (ltb-true p q e)
    by false e true f = inr (inl (ltb-true q p f))
    by false e false f = let l = ltb-false p q e in let m = ltb-false q p f in inr (inr (omega (arith, l, m)))

module _ (B : ℕ → ℕ → Type 0) (none : (r p : ℕ) → IsFirst B r p → ⊥) where
  -- at a place before which there is none, a number below which there is none
  at_number : (p n : ℕ) → ((r q : ℕ) → q < p → B r q → ⊥) → ((s : ℕ) → s < n → B s p → ⊥) → B n p → ⊥
  at_number p n before below b = none n p (record { broken = b; least = λ s q c. later s q c (order p q) (order s n) })
    where
      later : (s q : ℕ) → B s q → (p < q) ⊎ ((q < p) ⊎ (p ≡ q)) → (s < n) ⊎ ((n < s) ⊎ (s ≡ n)) → NoLater n p s q
      later s q c (inl l) k = inl l
      later s q c (inr (inl l)) k = absurd (before s q l c)
      later s q c (inr (inr e)) (inl l) = absurd (below s l (subst (B s) (sym e) c))
      later s q c (inr (inr e)) (inr (inl l)) = inr (e, omega (arith, l))
      later s q c (inr (inr e)) (inr (inr f)) = inr (e, omega (arith, f))

  number_step : (p n r : ℕ) → ((s q : ℕ) → q < p → B s q → ⊥) → ((s : ℕ) → s < n → B s p → ⊥) → r < suc n → B r p → (r < n) ⊎ ((n < r) ⊎ (r ≡ n)) → ⊥
  number_step p n r before below lt b (inl l) = below r l b
  number_step p n r before below lt b (inr (inl l)) = absurd (omega (arith, l, lt))
  number_step p n r before below lt b (inr (inr e)) = at_number p n before below (subst (λ s. B s p) e b)

  at_place : (p : ℕ) → ((r q : ℕ) → q < p → B r q → ⊥) → (n r : ℕ) → r < n → B r p → ⊥
  at_place p before zero r lt b = absurd (omega (arith, lt))
  at_place p before (suc n) r lt b = number_step p n r before (at_place p before n) lt b (order r n)

  -- none stands before m
  place_step : (m r q : ℕ) → ((s t : ℕ) → t < m → B s t → ⊥) → q < suc m → B r q → (q < m) ⊎ ((m < q) ⊎ (q ≡ m)) → ⊥
  place_step m r q before lt b (inl l) = before r q l b
  place_step m r q before lt b (inr (inl l)) = absurd (omega (arith, l, lt))
  place_step m r q before lt b (inr (inr e)) = at_place m before (suc r) r (omega arith) (subst (B r) e b)

  before_all : (m r q : ℕ) → q < m → B r q → ⊥
  before_all zero r q lt b = absurd (omega (arith, lt))
  before_all (suc m) r q lt b = place_step m r q (before_all m) lt b (order q m)

  pub no_first : IsClean B
  no_first r p b = before_all (suc p) r p (omega arith) b
