-- From one place at which a text may stand to the next.
use Rattle.std.proofs.Common.{◌≡◌, ℕ, ◌+◌, ◌-◌, ◌<◌, ◌≤◌, List, [], ◌∷◌, length, get_or, Option, Some, None, false, refl, sym, ap, ◌∙◌, arith, inl, inr, below_more}
use Rattle.std.proofs.lemmas.Bool.{cases_eq, cases_lt}
use Rattle.text_search.specs.Borders.{Agrees, IsBorder}
use Rattle.text_search.specs.Places.{IsLast, NoneFrom, Stands, stands}
use Rattle.text_search.proofs.Standing.{agrees_where, fits_where, nowhere, stands_where}

module _ (x t : List ℕ) where
  -- one unit more
  pub one_more : (p q : ℕ) → Agrees x t p q → get_or x q 0 ≡ get_or t (p + q) 0 → Agrees x t p (q + 1)
  one_more p q agrees same = below_more _ _ agrees same

  -- at the next place the border agrees
  pub moved : (p q b : ℕ) → Agrees x t p q → IsBorder x q b → Agrees x t (p + (q - b)) b
  moved p q b agrees border j lt =
      let inside : (q - b) + j < q = omega (arith, lt, border.shorter) in
      let same : p + ((q - b) + j) ≡ p + (q - b) + j = omega arith in
      border.stands j lt ∙ agrees ((q - b) + j) inside ∙ ap (λ i. get_or t i 0) same

  -- between the two as many units agree nowhere
  pub between : (p q b k n : ℕ) → Agrees x t p q → IsBorder x q b → p < k → k + b < p + q → p + q ≤ k + n → Agrees x t k n → ⊥
  between p q b k n agrees border more fewer far here =
      border.longest (k - p) (omega (arith, more)) (omega (arith, more, fewer))
      (λ j lt.
      let below : j < n = omega (arith, lt, more, far) in
      let inside : (k - p) + j < q = omega (arith, lt, more, fewer) in
      let same : k + j ≡ p + ((k - p) + j) = omega (arith, more) in
      here j below ∙ ap (λ i. get_or t i 0) same ∙ sym (agrees ((k - p) + j) inside))

  -- so it stands nowhere between
  pub none_past : (p q b : ℕ) → Agrees x t p q → IsBorder x q b → q ≤ length x → NoneFrom t x (p + 1) (p + (q - b))
  none_past p q b agrees border le k more fewer =
      nowhere t x k (λ sure. between p q b k (length x) agrees border (omega (arith, more)) (omega (arith, fewer, border.shorter)) (omega (arith, more, le)) (agrees_where t x k sure))

  -- up to a place, at it, and from there on
  pub joined : (a p b : ℕ) → NoneFrom t x a p → stands t x p ≡ false → NoneFrom t x (p + 1) b → NoneFrom t x a b
  joined a p b below here past k more fewer = elim (cases_lt k p) [
    | inl less ↦ below k more less
    | inr least ↦ elim (cases_eq k p) [
      | inl same ↦ ap (stands t x) same ∙ here
      | inr other ↦ past k (omega (arith, least, other)) fewer
    ]
  ]

  -- up to a place, and from it on
  pub joined_at : (a p b : ℕ) → NoneFrom t x a p → NoneFrom t x p b → NoneFrom t x a b
  joined_at a p b below past k more fewer = elim (cases_lt k p) [
    | inl less ↦ below k more less
    | inr least ↦ past k least fewer
  ]

  -- a text that is not empty stands nowhere at the end
  pub none_ending : (p q : ℕ) → p + q ≡ length t → q < length x → NoneFrom t x p (length t + 1)
  none_ending p q end lt k more fewer =
      nowhere t x k (λ sure. let fits : k + length x ≤ length t = fits_where t x k sure (omega (arith, lt)) in omega (arith, fits, more, end, lt))

  -- all of it agrees
  pub found : (p q : ℕ) → length x ≤ q → q ≤ length x → p + q ≤ length t → Agrees x t p q → Stands t x p
  found p q ge le fits agrees =
      let all : Agrees x t p (length x) = λ j lt. agrees j (omega (arith, lt, ge)) in
      let within : p + length x ≤ length t = omega (arith, fits, ge) in
      record { here = stands_where t x p all within; within = within }

-- the last place below another, at or before `to`, at which x stands in t, if any
abbrev pub IsLastBelow : List ℕ → List ℕ → ℕ → ℕ → Option ℕ → Type 0
IsLastBelow t x to place (Some i) = (i ≤ to) × Stands t x i × NoneFrom t x (i + 1) place
IsLastBelow t x to place None = NoneFrom t x 0 place

module _ (t x : List ℕ) where
  -- nothing more up to `to`
  pub last_found : (to place end : ℕ) (o : Option ℕ) → to < end → IsLastBelow t x to place o → NoneFrom t x place end → IsLast t x to o
  last_found to place end (Some i) lt h none = (h.0, h.1, λ k more fewer. joined_at x t (i + 1) place end h.2 none k more (omega (arith, fewer, lt)))
  last_found to place end None lt h none = λ k more fewer. joined_at x t 0 place end h none k more (omega (arith, fewer, lt))

-- the empty text stands everywhere
pub empty_last : (t x : List ℕ) (to : ℕ) → length x ≡ 0 → to ≤ length t → IsLast t x to (Some to)
empty_last t [] to none le = (omega arith, record { here = refl; within = omega (arith, le) }, λ k more fewer. absurd (omega (arith, more, fewer)))
empty_last t (u ∷ us) to none le = absurd (omega (arith, none))
