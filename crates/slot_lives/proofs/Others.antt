-- The other slots of a swap.
use Rattle.std.proofs.Common.{◌≡◌, ℕ, zero, suc, ◌+◌, ◌-◌, ◌<◌, ◌≤◌, Bool, true, false, cond, if◌then◌else◌, nat_le, List, [], ◌∷◌, ◌++◌, map, length, take, drop, get_or, slice_get, slice_index_or, Option, Some, None, refl, sym, ◌∙◌, ap, subst, inl, inr, arith}
use Rattle.std.proofs.lemmas.Bool.{cases_lt}
use Rattle.std.proofs.lemmas.Bool.Decides.{nat_tests}
use Rattle.std.proofs.lemmas.List.{append-nil, append_assoc, length-append, get_or-append-add, take-append-le, take-append-drop}
use Rattle.std.specs.List.{filter}
use Rattle.std.proofs.Math.Seq.{take-append-add}
use Rattle.trace_reader.specs.Said.{Said, an_event, an_advance, a_swap}
use Rattle.widget_meaning.specs.Items.{Item}
use Rattle.slot_lives.specs.Lives.{Life, gives_to, is_swap, swaps_in, lives, last_of, last_life, ended_at}
use Rattle.slot_lives.specs.LifeLaws.{swaps, new_life, with_item}
use Rattle.slot_lives.specs.OtherSlots.{moved, unended, OtherSlotLaws}
use Rattle.slot_lives.proofs.Growing.{given, swapped, ended, none_ended, none_beyond}
use Rattle.slot_lives.proofs.Alike.{swaps_in_append, others_beyond}

-- a list from its end
pub from_end : {X : Type 0} (P : List X → Type 0) → P [] → ((xs : List X) (x : X) → P xs → P (xs ++ x ∷ [])) → (xs : List X) → P xs
from_end {X = X} P none more xs = go [] xs none
  where
    go : (front rest : List X) → P front → P (front ++ rest)
    go front [] p = subst P (sym (append-nil front)) p
    go front (x ∷ rest) p = subst P (append_assoc front (x ∷ []) rest) (go (front ++ x ∷ []) rest (more front x p))

-- a swap gives no slot an item
gives_none : (w : ℕ) (i : Said) → is_swap i ≡ true → gives_to w i ≡ []
gives_none w (an_event to kind path value) is = cc
gives_none w (an_advance ms) is = cc
gives_none w (a_swap to file) is = refl

get_append : {X : Type 0} (xs ys : List X) (k : ℕ) → slice_get (xs ++ ys) (length xs + k) ≡ slice_get ys k
get_append [] ys k = ap (slice_get ys) (let e : 0 + k ≡ k = omega arith in e)
get_append (x ∷ xs) ys k = ap (slice_get (x ∷ (xs ++ ys))) (let e : suc (length xs) + k ≡ suc (length xs + k) = omega arith in e) ∙ get_append xs ys k

get_before : {X : Type 0} (xs ys : List X) (k : ℕ) → k < length xs → slice_get (xs ++ ys) k ≡ slice_get xs k
get_before [] ys k lt = absurd (omega arith)
get_before (x ∷ xs) ys zero lt = refl
get_before (x ∷ xs) ys (suc k) lt = get_before xs ys k (omega arith)

there_is : {X : Type 0} (xs : List X) (k : ℕ) → k < length xs → (x : X) × (slice_get xs k ≡ Some x)
there_is [] k lt = absurd (omega arith)
there_is (x ∷ xs) zero lt = (x, refl)
there_is (x ∷ xs) (suc k) lt = there_is xs k (omega arith)

module _ {A : Type 0} (first x : A) (before after : List A) (front : List Said) (i : Said) (w : ℕ) (is : is_swap i ≡ true) (other : swaps w i ≡ false) (even : length before ≡ swaps_in front) where
  abbrev Same : List Said → Type 0
  Same back = last_life first (before ++ x ∷ after) (front ++ i ∷ back) w ≡ last_life first (before ++ after) (front ++ back) w

  -- the last life before the swap hangs on nothing that comes behind it
  same_first : Same []
  same_first =
      let life : Life A = last_life first (before ++ x ∷ after) front w in
      let stays : with_item w i life ≡ life = λ k. record { runs = life.runs; items = (ap (λ (is : List Item). life.items ++ is) (gives_none w i is) ∙ append-nil life.items) k; until = life.until } in
      given first (before ++ x ∷ after) w front i other
      ∙ (stays
      ∙ (ap (last_of first) (others_beyond first before (x ∷ after) front w (omega arith))
      ∙ (ap (last_of first) (sym (others_beyond first before after front w (omega arith)))
      ∙ ap (λ (zs : List Said). last_life first (before ++ after) zs w) (sym (append-nil front)))))

  -- what a swap behind it brings is the same
  same_brought : (back : List Said) → slice_index_or (before ++ x ∷ after) (swaps_in (front ++ i ∷ back)) first ≡ slice_index_or (before ++ after) (swaps_in (front ++ back)) first
  same_brought back =
      let here : swaps_in (i ∷ back) ≡ suc (swaps_in back) = ap (λ b. length (cond b (i ∷ filter is_swap back) (filter is_swap back))) is in
      let with : swaps_in (front ++ i ∷ back) ≡ length before + suc (swaps_in back) = omega (arith, swaps_in_append front (i ∷ back), here) in
      let without : swaps_in (front ++ back) ≡ length before + swaps_in back = omega (arith, swaps_in_append front back) in
      ap (λ n. get_or (before ++ x ∷ after) n first) with
      ∙ (get_or-append-add before (x ∷ after) (suc (swaps_in back)) first
      ∙ (sym (get_or-append-add before after (swaps_in back) first)
      ∙ ap (λ n. get_or (before ++ after) n first) (sym without)))

  same_by : (back : List Said) (j : Said) (b : Bool) → swaps w j ≡ b → Same back → Same (back ++ j ∷ [])
  same_by back j true swap same =
      ap (λ (zs : List Said). last_life first (before ++ x ∷ after) zs w) (sym (append_assoc front (i ∷ back) (j ∷ [])))
      ∙ (swapped first (before ++ x ∷ after) w (front ++ i ∷ back) j swap
      ∙ (ap new_life (same_brought back)
      ∙ (sym (swapped first (before ++ after) w (front ++ back) j swap)
      ∙ ap (λ (zs : List Said). last_life first (before ++ after) zs w) (append_assoc front back (j ∷ [])))))
  same_by back j false none same =
      ap (λ (zs : List Said). last_life first (before ++ x ∷ after) zs w) (sym (append_assoc front (i ∷ back) (j ∷ [])))
      ∙ (given first (before ++ x ∷ after) w (front ++ i ∷ back) j none
      ∙ (ap (with_item w j) same
      ∙ (sym (given first (before ++ after) w (front ++ back) j none)
      ∙ ap (λ (zs : List Said). last_life first (before ++ after) zs w) (append_assoc front back (j ∷ [])))))

  pub same_last : (back : List Said) → Same back
  same_last back = from_end Same same_first (λ bs j same. same_by bs j (swaps w j) refl same) back

  -- ## Ended lives

  abbrev with : List Said → List (Life A)
  with back = lives first (before ++ x ∷ after) (front ++ i ∷ back) w

  abbrev without : List Said → List (Life A)
  without back = lives first (before ++ after) (front ++ back) w

  -- before the swap
  same_early : (back : List Said) (p : ℕ) (j : Said) (b : Bool) → p < length front → slice_get front p ≡ Some j → swaps w j ≡ b → map unended (ended_at (p + 1) (with back)) ≡ map unended (ended_at (p + 1) (without back))
  same_early back p j true lt at swap =
      let here : slice_get (front ++ i ∷ back) p ≡ Some j = get_before front (i ∷ back) p lt ∙ at in
      let there : slice_get (front ++ back) p ≡ Some j = get_before front back p lt ∙ at in
      let few : swaps_in (take p front) ≤ length before = omega (arith, swaps_in_append (take p front) (drop p front), ap swaps_in (take-append-drop p front)) in
      ap (map unended) (ended first (before ++ x ∷ after) w (front ++ i ∷ back) p j here swap)
      ∙ (ap (λ (zs : List Said). unended (last_life first (before ++ x ∷ after) zs w) ∷ []) (take-append-le p front (i ∷ back) (omega arith))
      ∙ (ap (λ (ls : List (Life A)). unended (last_of first ls) ∷ []) (others_beyond first before (x ∷ after) (take p front) w few)
      ∙ (ap (λ (ls : List (Life A)). unended (last_of first ls) ∷ []) (sym (others_beyond first before after (take p front) w few))
      ∙ (ap (λ (zs : List Said). unended (last_life first (before ++ after) zs w) ∷ []) (sym (take-append-le p front back (omega arith)))
      ∙ ap (map unended) (sym (ended first (before ++ after) w (front ++ back) p j there swap))))))
  same_early back p j false lt at none =
      let here : slice_get (front ++ i ∷ back) p ≡ Some j = get_before front (i ∷ back) p lt ∙ at in
      let there : slice_get (front ++ back) p ≡ Some j = get_before front back p lt ∙ at in
      ap (map unended) (none_ended first (before ++ x ∷ after) w (front ++ i ∷ back) p j here none)
      ∙ ap (map unended) (sym (none_ended first (before ++ after) w (front ++ back) p j there none))

  -- behind it
  same_late : (back : List Said) (k : ℕ) (o : Option Said) → slice_get back k ≡ o → (b : (j : Said) → Bool) → ((j : Said) → swaps w j ≡ b j)
      → map unended (ended_at (length front + suc k + 1) (with back)) ≡ map unended (ended_at (length front + k + 1) (without back))
  same_late back k None at b tells =
      let past : length back ≤ k = beyond back k at in
      let long = length-append front (i ∷ back) in
      let short = length-append front back in
      ap (map unended) (none_beyond first (before ++ x ∷ after) w (front ++ i ∷ back) (length front + suc k) (omega arith))
      ∙ ap (map unended) (sym (none_beyond first (before ++ after) w (front ++ back) (length front + k) (omega arith)))
    where
      beyond : (xs : List Said) (n : ℕ) → slice_get xs n ≡ None → length xs ≤ n
      beyond [] n e = omega arith
      beyond (y ∷ ys) zero e = cc
      beyond (y ∷ ys) (suc n) e = let le = beyond ys n e in omega arith
  same_late back k (Some j) at b tells = by (b j) (tells j)
    where
      here : slice_get (front ++ i ∷ back) (length front + suc k) ≡ Some j
      here = get_append front (i ∷ back) (suc k) ∙ at

      there : slice_get (front ++ back) (length front + k) ≡ Some j
      there = get_append front back k ∙ at

      by : (c : Bool) → swaps w j ≡ c → map unended (ended_at (length front + suc k + 1) (with back)) ≡ map unended (ended_at (length front + k + 1) (without back))
      by true swap =
          ap (map unended) (ended first (before ++ x ∷ after) w (front ++ i ∷ back) (length front + suc k) j here swap)
          ∙ (ap (λ (zs : List Said). unended (last_life first (before ++ x ∷ after) zs w) ∷ []) (take-append-add front (i ∷ back) (suc k))
          ∙ (ap (λ (l : Life A). unended l ∷ []) (same_last (take k back))
          ∙ (ap (λ (zs : List Said). unended (last_life first (before ++ after) zs w) ∷ []) (sym (take-append-add front back k))
          ∙ ap (map unended) (sym (ended first (before ++ after) w (front ++ back) (length front + k) j there swap)))))
      by false none =
          ap (map unended) (none_ended first (before ++ x ∷ after) w (front ++ i ∷ back) (length front + suc k) j here none)
          ∙ ap (map unended) (sym (none_ended first (before ++ after) w (front ++ back) (length front + k) j there none))

  pub same_ended : (back : List Said) (p : ℕ) → map unended (ended_at (moved (length front) (p + 1)) (with back)) ≡ map unended (ended_at (p + 1) (without back))
  same_ended back p =
      elim (cases_lt p (length front)) as (λ _. map unended (ended_at (moved (length front) (p + 1)) (with back)) ≡ map unended (ended_at (p + 1) (without back))) [
        | inl lt ↦ (
            let near : nat_le (p + 1) (length front) ≡ true = grind (arith, nat_tests) in
            ap (λ b. map unended (ended_at (if b then p + 1 else p + 1 + 1) (with back))) near ∙ early lt)
        | inr ge ↦ (
            let far : nat_le (p + 1) (length front) ≡ false = grind (arith, nat_tests) in
            let k : ℕ = p - length front in
            let one : p + 1 + 1 ≡ length front + suc k + 1 = omega arith in
            let two : length front + k + 1 ≡ p + 1 = omega arith in
            ap (λ b. map unended (ended_at (if b then p + 1 else p + 1 + 1) (with back))) far
            ∙ (ap (λ n. map unended (ended_at n (with back))) one
            ∙ (same_late back k (slice_get back k) refl (λ j. swaps w j) (λ j. refl)
            ∙ ap (λ n. map unended (ended_at n (without back))) two)))
      ]
    where
      early : p < length front → map unended (ended_at (p + 1) (with back)) ≡ map unended (ended_at (p + 1) (without back))
      early lt = let it = there_is front p lt in same_early back p it.0 (swaps w it.0) lt it.1 refl

pub other_slots : {A : Type 0} (first x : A) (before after : List A) (front back : List Said) (i : Said) (w : ℕ) → is_swap i ≡ true → swaps w i ≡ false → length before ≡ swaps_in front
    → OtherSlotLaws first x before after front back i w
other_slots first x before after front back i w is other even = record {
  last = same_last first x before after front i w is other even back;
  ended = λ p. same_ended first x before after front i w is other even back p;
}
