-- Own numbers.
use Rattle.std.proofs.Common.{◌≡◌, ℕ, zero, suc, ◌+◌, ◌<◌, ◌≤◌, List, [], ◌∷◌, Bool, true, false, refl, sym, ap, ◌∙◌, length, cond, eqb, eq-eqb, ne_eqb, arith, ⊎_elim}
use Rattle.std.specs.Prelude.{nat_lt}
use Rattle.std.proofs.lemmas.Bool.{cases_lt}
use Rattle.std.proofs.lemmas.Bool.Decides.{nat_tests}
use Rattle.code_units.specs.declared.owner.Owner.TheVariants as owner
use Rattle.page_nodes.specs.Entries.{Entry, at}
use Rattle.page_nodes.specs.Owners.{same_owner}
use Rattle.page_image.specs.Own.{is_own, own_number}

one_if : (b : Bool) → b ≡ true → cond {A = ℕ} b 1 0 ≡ 1
one_if true h = refl
one_if false h = cc

no_true : false ≡ true → ⊥
no_true e = cc

-- an older own node has a lesser own number
pub lesser : (k : List Entry) (w n m : ℕ) → is_own k w n ≡ true → n < m → own_number k w n < own_number k w m
lesser [] w n m h lt = absurd (no_true h)
lesser (e ∷ k) w n zero h lt = absurd (omega (arith, lt))
lesser (e ∷ k) w zero (suc m) h lt = omega (arith, one_if (same_owner e.owner (owner.Widget w)) h)
lesser (e ∷ k) w (suc n) (suc m) h lt = omega (arith, lesser k w n m h (omega (arith, lt)))

module _ (k : List Entry) (w n m : ℕ) (hn : is_own k w n ≡ true) (hm : is_own k w m ≡ true) where
  pub tell : eqb (own_number k w m) (own_number k w n) ≡ eqb m n
  tell = ⊎_elim
      (λ lt. ne_eqb _ _ (λ e. omega (arith, lesser k w n m hn lt, e)) ∙ sym (ne_eqb m n (λ e. omega (arith, lt, e))))
      (λ le. ⊎_elim
      (λ lt. ne_eqb _ _ (λ e. omega (arith, lesser k w m n hm lt, e)) ∙ sym (ne_eqb m n (λ e. omega (arith, lt, e))))
      (λ le2. let e : m ≡ n = omega (arith, le, le2) in eq-eqb _ _ (ap (own_number k w) e) ∙ sym (eq-eqb m n e))
      (cases_lt m n))
      (cases_lt n m)

  pub order : nat_lt (own_number k w n) (own_number k w m) ≡ nat_lt n m
  order = ⊎_elim
      (λ lt. let l = lesser k w n m hn lt in grind (arith, nat_tests, l, lt))
      (λ le. ⊎_elim
      (λ lt. let l = lesser k w m n hm lt in grind (arith, nat_tests, l, lt))
      (λ le2. let e : m ≡ n = omega (arith, le, le2) in let f : own_number k w m ≡ own_number k w n = ap (own_number k w) e in grind (arith, nat_tests, e, f))
      (cases_lt m n))
      (cases_lt n m)

-- ## They stay

-- where owners stay
pub number_kept : (k m : List Entry) (w : ℕ) → length m ≡ length k → ((x : ℕ) → (at m x).owner ≡ (at k x).owner) → (n : ℕ) → own_number m w n ≡ own_number k w n
number_kept [] [] w e h n = refl
number_kept [] (d ∷ m) w e h n = absurd (omega (arith, e))
number_kept (d ∷ k) [] w e h n = absurd (omega (arith, e))
number_kept (d ∷ k) (c ∷ m) w e h zero = refl
number_kept (d ∷ k) (c ∷ m) w e h (suc n) =
    ap (λ o. cond (same_owner o (owner.Widget w)) 1 0 + own_number m w n) (h 0)
    ∙ ap (λ x. cond (same_owner d.owner (owner.Widget w)) 1 0 + x) (number_kept k m w (omega (arith, e)) (λ x. h (suc x)) n)

-- as nodes are added
pub number_older : (k m : List Entry) (w : ℕ) → length k ≤ length m → ((x : ℕ) → x < length k → at m x ≡ at k x) → (n : ℕ) → n ≤ length k → own_number m w n ≡ own_number k w n
number_older [] [] w le h n ln = refl
number_older [] (c ∷ m) w le h zero ln = refl
number_older [] (c ∷ m) w le h (suc n) ln = absurd (omega (arith, ln))
number_older (d ∷ k) [] w le h n ln = absurd (omega (arith, le))
number_older (d ∷ k) (c ∷ m) w le h zero ln = refl
number_older (d ∷ k) (c ∷ m) w le h (suc n) ln =
    ap (λ (e : Entry). cond (same_owner e.owner (owner.Widget w)) 1 0 + own_number m w n) (h 0 (omega arith))
    ∙ ap (λ x. cond (same_owner d.owner (owner.Widget w)) 1 0 + x) (number_older k m w (omega (arith, le)) (λ x lt. h (suc x) (omega (arith, lt))) n (omega (arith, ln)))
