-- Which lives a position lies in.
use Rattle.std.proofs.Common.{◌≡◌, ℕ, suc, ◌+◌, ◌<◌, ◌≤◌, Bool, true, false, ◌&&◌, cond, not, if◌then◌else◌, nat_le, nat_lt, List, [], ◌∷◌, length, drop, slice_get, Some, None, refl, sym, ◌∙◌, ap, inl, inr, arith}
use Rattle.std.proofs.lemmas.Bool.{cases_lt}
use Rattle.std.proofs.lemmas.Bool.Decides.{nat_tests}
use Rattle.std.proofs.lemmas.List.{length-drop}
use Rattle.std.proofs.lemmas.Option.{slice_get_within}
use Rattle.std.specs.List.{filter}
use Rattle.life_split.specs.declared.items.Life.{Life}
use Rattle.life_split.specs.declared.items.LifeItem.{LifeItem}
use Rattle.life_split.specs.Cut.{cut, is_swap, swaps_from}
use Rattle.life_split.specs.CutLaws.{holders, holds}
use Rattle.life_split.proofs.Spans.{head_of, tail_of}

-- how many lives hold a position
abbrev pub held : ℕ → List Life → ℕ
held k lives = length (filter (holds k) lives)

out : (k : ℕ) (life : Life) (lives : List Life) → holds k life ≡ false → held k (life ∷ lives) ≡ held k lives
out k life lives e = ap (λ b. length (cond b (life ∷ filter (holds k) lives) (filter (holds k) lives))) e

within : (k : ℕ) (life : Life) (lives : List Life) → holds k life ≡ true → held k lives ≡ 0 → held k (life ∷ lives) ≡ 1
within k life lives e none = ap (λ b. length (cond b (life ∷ filter (holds k) lives) (filter (holds k) lives))) e ∙ (let one : suc (held k lives) ≡ 1 = omega arith in one)

too_early : (k from to : ℕ) → k < from → (nat_le from k && nat_lt k to) ≡ false
too_early k from to lt = grind (arith, nat_tests)

too_late : (k from to : ℕ) → to ≤ k → (nat_le from k && nat_lt k to) ≡ false
too_late k from to le = grind (arith, nat_tests)

between : (k from to : ℕ) → from ≤ k → k < to → (nat_le from k && nat_lt k to) ≡ true
between k from to le lt = grind (arith, nat_tests)

-- a position before all these lives lies in none
before : (w k from n : ℕ) (rest : List LifeItem) (end : ℕ) → k < from → from ≤ n → held k (cut from (swaps_from w n rest) end) ≡ 0
before w k from n [] end lt le = out k (record { from = from; to = end; until = None }) [] (too_early k from end lt)
before w k from n (i ∷ rest) end lt le = by_swap (is_swap w i) (before w k (n + 1) (n + 1) rest end (omega arith) (omega arith)) (before w k from (n + 1) rest end lt (omega arith))
  where
    by_swap : (b : Bool) → held k (cut (n + 1) (swaps_from w (n + 1) rest) end) ≡ 0 → held k (cut from (swaps_from w (n + 1) rest) end) ≡ 0 → held k (cut from (if b then n ∷ swaps_from w (n + 1) rest else swaps_from w (n + 1) rest) end) ≡ 0
    by_swap true next same = out k (record { from = from; to = n; until = Some (n + 1) }) (cut (n + 1) (swaps_from w (n + 1) rest) end) (too_early k from n lt) ∙ next
    by_swap false next same = same

-- the item at k
module _ (w k : ℕ) (items : List LifeItem) (item : LifeItem) (at : slice_get items k ≡ Some item) where
  -- it is no other one
  here : (n : ℕ) (i : LifeItem) (rest : List LifeItem) (b c : Bool) → drop n items ≡ i ∷ rest → is_swap w i ≡ b → is_swap w item ≡ c → k ≡ n → b ≡ c
  here n i rest b c e ib ic same =
      let there : Some item ≡ Some i = sym at ∙ (ap (slice_get items) same ∙ head_of n items i rest e) in
      let equal : item ≡ i = cc in
      sym ib ∙ (ap (is_swap w) (sym equal) ∙ ic)

  other : (n : ℕ) (i : LifeItem) (rest : List LifeItem) (b : Bool) → n ≤ k → drop n items ≡ i ∷ rest → is_swap w i ≡ not b → is_swap w item ≡ b → n + 1 ≤ k
  other n i rest b le e ib ic =
      elim (cases_lt n k) as (λ _. n + 1 ≤ k) [
        | inl lt ↦ omega arith
        | inr ge ↦ (let same : k ≡ n = omega arith in let clash : not b ≡ b = here n i rest (not b) b e ib ic same in absurd (differ b clash))
      ]
    where
      differ : (b : Bool) → not b ≡ b → ⊥
      differ true e = cc
      differ false e = cc

  -- no swap of the slot: it lies in one life
  module _ (stays : is_swap w item ≡ false) where
    one_by : (from n : ℕ) (i : LifeItem) (rest : List LifeItem) (b : Bool) → is_swap w i ≡ b → from ≤ k → from ≤ n → drop n items ≡ i ∷ rest
        → (n + 1 ≤ k → held k (cut (n + 1) (swaps_from w (n + 1) rest) (length items)) ≡ 1) → held k (cut from (swaps_from w (n + 1) rest) (length items)) ≡ 1
        → held k (cut from (if b then n ∷ swaps_from w (n + 1) rest else swaps_from w (n + 1) rest) (length items)) ≡ 1
    one_by from n i rest true is low le e next same =
        elim (cases_lt k n) as (λ _. held k (cut from (n ∷ swaps_from w (n + 1) rest) (length items)) ≡ 1) [
          | inl lt ↦
              within k (record { from = from; to = n; until = Some (n + 1) }) (cut (n + 1) (swaps_from w (n + 1) rest) (length items)) (between k from n low lt)
              (before w k (n + 1) (n + 1) rest (length items) (omega arith) (omega arith))
          | inr ge ↦
              out k (record { from = from; to = n; until = Some (n + 1) }) (cut (n + 1) (swaps_from w (n + 1) rest) (length items)) (too_late k from n ge) ∙ next (other n i rest false ge e is stays)
        ]
    one_by from n i rest false is low le e next same = same

    one_from : (from n : ℕ) (rest : List LifeItem) → from ≤ k → from ≤ n → drop n items ≡ rest → held k (cut from (swaps_from w n rest) (length items)) ≡ 1
    one_from from n [] low le e = within k (record { from = from; to = length items; until = None }) [] (between k from (length items) low (slice_get_within items k item at)) refl
    one_from from n (i ∷ rest) low le e =
        one_by from n i rest (is_swap w i) refl low le e (λ high. one_from (n + 1) (n + 1) rest high (omega arith) (tail_of n items i rest e)) (one_from from (n + 1) rest low (omega arith) (tail_of n items i rest e))

    pub once : holders items w k ≡ 1
    once = one_from 0 0 items (omega arith) (omega arith) refl

  -- a swap of the slot: it lies in none
  module _ (swaps : is_swap w item ≡ true) where
    none_by : (from n : ℕ) (i : LifeItem) (rest : List LifeItem) (b : Bool) → is_swap w i ≡ b → n ≤ k → from ≤ n → drop n items ≡ i ∷ rest
        → (n + 1 ≤ k → held k (cut (n + 1) (swaps_from w (n + 1) rest) (length items)) ≡ 0) → (n + 1 ≤ k → held k (cut from (swaps_from w (n + 1) rest) (length items)) ≡ 0)
        → held k (cut from (if b then n ∷ swaps_from w (n + 1) rest else swaps_from w (n + 1) rest) (length items)) ≡ 0
    none_by from n i rest true is high le e next same =
        out k (record { from = from; to = n; until = Some (n + 1) }) (cut (n + 1) (swaps_from w (n + 1) rest) (length items)) (too_late k from n high)
        ∙ elim (cases_lt n k) as (λ _. held k (cut (n + 1) (swaps_from w (n + 1) rest) (length items)) ≡ 0) [
          | inl lt ↦ next (omega arith)
          | inr ge ↦ before w k (n + 1) (n + 1) rest (length items) (omega arith) (omega arith)
        ]
    none_by from n i rest false is high le e next same = same (other n i rest true high e is swaps)

    none_from : (from n : ℕ) (rest : List LifeItem) → n ≤ k → from ≤ n → drop n items ≡ rest → held k (cut from (swaps_from w n rest) (length items)) ≡ 0
    none_from from n [] high le e =
        let lt : k < length items = slice_get_within items k item at in
        let past : length (drop n items) ≡ 0 = ap length e in
        absurd (omega (arith, length-drop n items))
    none_from from n (i ∷ rest) high le e =
        none_by from n i rest (is_swap w i) refl high le e (λ more. none_from (n + 1) (n + 1) rest more (omega arith) (tail_of n items i rest e)) (λ more. none_from from (n + 1) rest more (omega arith) (tail_of n items i rest e))

    pub never : holders items w k ≡ 0
    never = none_from 0 0 items (omega arith) (omega arith) refl
