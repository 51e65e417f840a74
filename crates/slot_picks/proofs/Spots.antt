-- No two slots of a page have one node.
use Rattle.std.proofs.Common.{◌≡◌, ℕ, List, [], ◌∷◌, Bool, true, false, cond, refl, sym, ap, ◌∙◌, eqb, eqb-true, eq-eqb, get_or, not}
use Rattle.std.proofs.lemmas.Bool.{and_parts, or_left, or_right}
use Rattle.page_nodes.specs.Entries.{body, distinct, listed}
use Rattle.page_build.specs.Standing.{Child, Fixed, InSlot, filled, has_slot}

no_true : false ≡ true → ⊥
no_true e = cc

off : (b : Bool) → not b ≡ true → b ≡ true → ⊥
off true h e = no_true h
off false h e = no_true e

module _ (spots : List ℕ) (n : ℕ) where
  in_slot : (w : ℕ) → get_or spots w body ≡ n → (cs : List Child) → has_slot w cs ≡ true → listed n (filled cs spots) ≡ true
  in_slot w is [] h = absurd (no_true h)
  in_slot w is (Fixed x ∷ cs) h = or_right (eqb x n) (listed n (filled cs spots)) (in_slot w is cs h)
  in_slot w is (InSlot k ∷ cs) h = by (eqb k w) refl h (in_slot w is cs)
    where
      by : (b : Bool) → eqb k w ≡ b → cond b true (has_slot w cs) ≡ true → (has_slot w cs ≡ true → listed n (filled cs spots) ≡ true) → listed n (filled (InSlot k ∷ cs) spots) ≡ true
      by true e h rest = or_left (eqb (get_or spots k body) n) (listed n (filled cs spots)) (eq-eqb (get_or spots k body) n (ap (λ x. get_or spots x body) (eqb-true k w e) ∙ is))
      by false e h rest = or_right (eqb (get_or spots k body) n) (listed n (filled cs spots)) (rest h)

  one_slot : (w u : ℕ) → get_or spots w body ≡ n → get_or spots u body ≡ n → (cs : List Child) → has_slot w cs ≡ true → has_slot u cs ≡ true → distinct (filled cs spots) ≡ true → w ≡ u
  one_slot w u is too [] h k d = absurd (no_true h)
  one_slot w u is too (Fixed x ∷ cs) h k d = one_slot w u is too cs h k ((and_parts (not (listed x (filled cs spots))) (distinct (filled cs spots)) d).1)
  one_slot w u is too (InSlot s ∷ cs) h k d = by (eqb s w) (eqb s u) refl refl h k (one_slot w u is too cs)
    where
      parts : (not (listed (get_or spots s body) (filled cs spots)) ≡ true) × (distinct (filled cs spots) ≡ true)
      parts = and_parts (not (listed (get_or spots s body) (filled cs spots))) (distinct (filled cs spots)) d

      twice : (v : ℕ) → s ≡ v → get_or spots v body ≡ n → listed n (filled cs spots) ≡ true → ⊥
      twice v e f g = off (listed (get_or spots s body) (filled cs spots)) parts.0 (ap (λ y. listed y (filled cs spots)) (ap (λ x. get_or spots x body) e ∙ f) ∙ g)

      by : (a b : Bool) → eqb s w ≡ a → eqb s u ≡ b → cond a true (has_slot w cs) ≡ true → cond b true (has_slot u cs) ≡ true → (has_slot w cs ≡ true → has_slot u cs ≡ true → distinct (filled cs spots) ≡ true → w ≡ u) → w ≡ u
      by true true e f h k rest = sym (eqb-true s w e) ∙ eqb-true s u f
      by true false e f h k rest = absurd (twice w (eqb-true s w e) is (in_slot u too cs k))
      by false true e f h k rest = absurd (twice u (eqb-true s u f) too (in_slot w is cs h))
      by false false e f h k rest = rest h k parts.1
