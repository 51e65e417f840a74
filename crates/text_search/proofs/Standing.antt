-- Where a text stands, unit by unit.
use Rattle.std.proofs.Common.{◌≡◌, ℕ, ◌+◌, ◌<◌, ◌≤◌, List, ◌++◌, length, take, drop, get_or, true, false, refl, sym, ap, ◌∙◌, arith, inl, inr, length-append, length-drop}
use Rattle.std.proofs.lemmas.Bool.{cases_Bool}
use Rattle.std.proofs.lemmas.Bool.Decides.{Decides-eqb}
use Rattle.std.proofs.lemmas.List.{ext_get_or, get_or-drop, get_or-take, get_or_append_left, length-take-le, take-append-drop}
use Rattle.std.proofs.lemmas.Slice.Eq.{starts_is}
use Rattle.text_search.specs.Borders.{Agrees}
use Rattle.text_search.specs.Places.{stands}

module _ (t x : List ℕ) where
  split : (i : ℕ) → stands t x i ≡ true → drop i t ≡ x ++ drop (length x) (drop i t)
  split i sure = (starts_is Decides-eqb (drop i t) x (stands t x i) refl).0 sure

  -- all of it agrees
  pub agrees_where : (i : ℕ) → stands t x i ≡ true → Agrees x t i (length x)
  agrees_where i sure j lt =
      sym (get_or_append_left x (drop (length x) (drop i t)) 0 j lt)
      ∙ sym (ap (λ us. get_or us j 0) (split i sure))
      ∙ get_or-drop i t j 0

  -- and is within the other text
  pub fits_where : (i : ℕ) → stands t x i ≡ true → 0 < length x → i + length x ≤ length t
  fits_where i sure some =
      let e : length (drop i t) ≡ length (x ++ drop (length x) (drop i t)) = ap (λ us. length us) (split i sure) in
      omega (arith, e, length-append x (drop (length x) (drop i t)), length-drop i t, some)

  -- it stands where all of it agrees
  pub stands_where : (i : ℕ) → Agrees x t i (length x) → i + length x ≤ length t → stands t x i ≡ true
  stands_where i agrees fits =
      let few : length x ≤ length (drop i t) = omega (arith, length-drop i t, fits) in
      let many : length (take (length x) (drop i t)) ≡ length x = length-take-le (length x) (drop i t) few in
      let front : take (length x) (drop i t) ≡ x =
      ext_get_or 0 (take (length x) (drop i t)) x many
      (λ j lt. let below : j < length x = omega (arith, lt, many) in
      get_or-take (length x) (drop i t) j 0 below ∙ get_or-drop i t j 0 ∙ sym (agrees j below)) in
      (starts_is Decides-eqb (drop i t) x (stands t x i) refl).1 (drop (length x) (drop i t))
      (sym (take-append-drop (length x) (drop i t)) ∙ ap (λ us. us ++ drop (length x) (drop i t)) front)

  pub nowhere : (i : ℕ) → (stands t x i ≡ true → ⊥) → stands t x i ≡ false
  nowhere i nay = elim (cases_Bool (stands t x i)) [ inl sure ↦ absurd (nay sure) | inr none ↦ none ]

  -- a unit that differs
  pub differs : (i q : ℕ) → q < length x → (get_or x q 0 ≡ get_or t (i + q) 0 → ⊥) → stands t x i ≡ false
  differs i q lt nay = nowhere i (λ sure. nay (agrees_where i sure q lt))
