-- The swaps that are found among items, and the last one of a slot.
use Rattle.std.proofs.Common.{◌≡◌, ℕ, zero, suc, ◌+◌, ◌<◌, ◌≤◌, List, [], ◌∷◌, ◌++◌, map, length, take, get_or, true, false, Option, Some, None, refl, sym, ap, ◌∙◌, arith}
use Rattle.std.specs.Prelude.{slice_index_or, nat_eq, IfSome}
use Rattle.std.proofs.lemmas.List.{map-append, length-map, take_all}
use Rattle.trace_reader.specs.declared.item.TraceItem.{TraceItem}
use Rattle.trace_reader.specs.Said.{Said, said}
use Rattle.slot_check.specs.declared.fault.Refusal.{Refusal}
use Rattle.page_play.specs.declared.findings.Findings.{Findings}
use Rattle.page_play.specs.Swaps.{swap_slots, swap_positions, last_swap, brought_by}
use Rattle.page_play.specs.Findings.{found_after}
use Rattle.page_play.proofs.Swapping.{slots_append, positions_append, last_here, last_elsewhere, last_within}
use Rattle.page_play.proofs.Telling.{index_read}

pub take_push : {A : Type 0} (xs : List A) (n : ℕ) (x : A) → n < length xs → x ≡ get_or xs n x → take (n + 1) xs ≡ take n xs ++ x ∷ []
take_push [] n x less is = absurd (omega (arith, less))
take_push (y ∷ xs) zero x less is = let e : x ≡ y = is in ap (λ z. z ∷ []) (sym e)
take_push (y ∷ xs) (suc n) x less is = let g : suc n + 1 ≡ suc (n + 1) = omega arith in ap (λ k. take k (y ∷ xs)) g ∙ ap (λ zs. y ∷ zs) (take_push xs n x (omega (arith, less)) is)

take_length : {A : Type 0} (xs : List A) (n : ℕ) → n ≤ length xs → length (take n xs) ≡ n
take_length [] zero less = refl
take_length (x ∷ xs) zero less = refl
take_length [] (suc n) less = absurd (omega (arith, less))
take_length (x ∷ xs) (suc n) less = ap suc (take_length xs n (omega (arith, less)))

module _ (items : List TraceItem) (n : ℕ) (x : TraceItem) (less : n < length items) (is : x ≡ get_or items n x) where
  said_more : map said (take (n + 1) items) ≡ map said (take n items) ++ said x ∷ []
  said_more = ap (map said) (take_push items n x less is) ∙ map-append said (take n items) (x ∷ [])

  pub slots_more : (mid new : List ℕ) → mid ≡ swap_slots (map said (take n items)) → new ≡ mid ++ swap_slots (said x ∷ []) → new ≡ swap_slots (map said (take (n + 1) items))
  slots_more mid new before after =
      after ∙ ap (λ ms. ms ++ swap_slots (said x ∷ [])) before ∙ sym (slots_append (map said (take n items)) (said x ∷ [])) ∙ ap swap_slots (sym said_more)

  pub positions_more : (mid new : List ℕ) → mid ≡ swap_positions 0 (map said (take n items)) → new ≡ mid ++ swap_positions n (said x ∷ []) → new ≡ swap_positions 0 (map said (take (n + 1) items))
  positions_more mid new before after =
      let many : 0 + length (map said (take n items)) ≡ n = (let l = take_length items n (omega (arith, less)) in omega (arith, length-map (take n items) said, l)) in
      after ∙ ap (λ ms. ms ++ swap_positions n (said x ∷ [])) before ∙ ap (λ k. swap_positions 0 (map said (take n items)) ++ swap_positions k (said x ∷ [])) (sym many)
      ∙ sym (positions_append 0 (map said (take n items)) (said x ∷ [])) ∙ ap (swap_positions 0) (sym said_more)

pub all_said : {B : Type 0} (F : List Said → B) (items : List TraceItem) (n : ℕ) → length items ≤ n → F (map said (take n items)) ≡ F (map said items)
all_said F items n past = ap (λ xs. F (map said xs)) (take_all n items past)

-- ## The last swap of a slot

module _ (w : ℕ) (slots : List ℕ) (n to : ℕ) (less : n < length slots) (is : to ≡ get_or slots n to) where
  pub found_here : nat_eq to w ≡ true → Some n ≡ last_swap w (take (n + 1) slots)
  found_here on = sym (ap (last_swap w) (take_push slots n to less is) ∙ last_here w (take n slots) to on ∙ ap Some (take_length slots n (omega (arith, less))))

  pub found_before : (last : Option ℕ) → nat_eq to w ≡ false → last ≡ last_swap w (take n slots) → last ≡ last_swap w (take (n + 1) slots)
  found_before last off so_far = so_far ∙ sym (ap (last_swap w) (take_push slots n to less is) ∙ last_elsewhere w (take n slots) to off)

pub found_all : (w : ℕ) (slots : List ℕ) (n : ℕ) (last : Option ℕ) → length slots ≤ n → last ≡ last_swap w (take n slots) → last ≡ last_swap w slots
found_all w slots n last past so_far = so_far ∙ ap (last_swap w) (take_all n slots past)

pub last_less : (w : ℕ) (slots : List ℕ) (last : Option ℕ) → last ≡ last_swap w slots → IfSome last (λ i. i < length slots)
last_less w slots None is = tt
last_less w slots (Some i) is = last_within w slots i (sym is)

-- ## What was found of a file

take_few : {A : Type 0} (xs : List A) (n : ℕ) → length (take n xs) ≤ length xs
take_few [] zero = omega arith
take_few [] (suc n) = omega arith
take_few (x ∷ xs) zero = omega arith
take_few (x ∷ xs) (suc n) = let r = take_few xs n in omega (arith, r)

module _ (f : Findings) (w count : ℕ) (last : Option ℕ) (is : last ≡ last_swap w (take count f.swaps.slots.items)) where
  pub found_first : (r : Option Refusal) → last ≡ None → w < length f.refusals.items → r ≡ get_or f.refusals.items w r → r ≡ found_after f w count
  found_first r none less read =
      sym (index_read f.refusals.items w r None less read) ∙ ap (brought_by (slice_index_or f.refusals.items w None) f.brought.items) (sym (sym is ∙ none))

  pub found_brought : (i : ℕ) (r : Option Refusal) → last ≡ Some i → length f.brought.items ≡ length f.swaps.slots.items → r ≡ get_or f.brought.items i r → r ≡ found_after f w count
  found_brought i r some even read =
      let less = last_within w (take count f.swaps.slots.items) i (sym is ∙ some) in
      let few = take_few f.swaps.slots.items count in
      sym (index_read f.brought.items i r (slice_index_or f.refusals.items w None) (omega (arith, less, few, even)) read) ∙ ap (brought_by (slice_index_or f.refusals.items w None) f.brought.items) (sym (sym is ∙ some))

pub brought_there : (w count i : ℕ) (slots : List ℕ) (n : ℕ) (last : Option ℕ) → last ≡ last_swap w (take count slots) → last ≡ Some i → n ≡ length slots → i < n
brought_there w count i slots n last is some even =
    let less = last_within w (take count slots) i (sym is ∙ some) in
    let few = take_few slots count in
    omega (arith, less, few, even)
