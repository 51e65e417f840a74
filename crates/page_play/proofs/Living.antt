-- Lives over what was judged of their files.
use Rattle.std.proofs.Common.{◌≡◌, ◌≢◌, ℕ, zero, suc, ◌+◌, ◌<◌, List, [], ◌∷◌, ◌++◌, map, length, All, true, false, Option, Some, refl, sym, ap, subst, ◌∙◌, arith, append_assoc, append-nil, ◌⊎◌, inl, inr}
use Rattle.std.specs.Prelude.{nat_eq, slice_get, slice_index_or, option_map, filter_map}
use Rattle.std.specs.List.{zip}
use Rattle.std.proofs.lemmas.List.Elements.{filter_map-append}
use Rattle.std.proofs.lemmas.Bool.Decides.{eqb_tells}
use Rattle.trace_reader.specs.Said.{Said, an_event, an_advance, a_swap}
use Rattle.slot_check.specs.declared.fault.Refusal.{Refusal}
use Rattle.slot_check.specs.Sources.{Source}
use Rattle.adsafe_rules.specs.declared.accepted.Accepted.{Accepted}
use Rattle.widget_meaning.specs.Items.{Item}
use Rattle.page_plan.specs.declared.SlotContent.{SlotContent}
use Rattle.page_plan.specs.declared.SlotSpec.{SlotSpec}
use Rattle.page_plan.specs.Contents.{content_of}
use Rattle.page_check.specs.Runs.{SlotRun, swap_run, swap_runs, with_file}
use Rattle.page_check.specs.Judged.{IsJudged, IsJudgedSlot, AreJudgedSwaps, no_swap, one_swap}
use Rattle.slot_lives.specs.Lives as lives
use Rattle.slot_lives.specs.Lives.{Life, last_life, swaps_in}
use Rattle.slot_lives.specs.LifeLaws as laws
use Rattle.slot_lives.specs.LifeLaws.{new_life}
use Rattle.slot_lives.proofs.LawsHold.{life_laws}
use Rattle.page_play.specs.Swaps.{swap_slots, last_swap, brought_by}
use Rattle.page_play.proofs.Matching.{Alike}
use Rattle.page_play.proofs.Swapping.{slots_append, slots_length, last_here, last_elsewhere}

-- ## What swaps bring

some_is : {A : Type 0} (x y : A) → Some x ≡ Some y → x ≡ y
some_is x y e = cc

within : {A : Type 0} (xs : List A) (n : ℕ) (x : A) → slice_get xs n ≡ Some x → n < length xs
within [] n x at = absurd (let e = at in cc)
within (y ∷ xs) zero x at = omega arith
within (y ∷ xs) (suc n) x at = let r = within xs n x at in omega (arith, r)

there_at : {A : Type 0} (xs : List A) (n : ℕ) → n < length xs → (x : A) × (slice_get xs n ≡ Some x)
there_at [] n less = absurd (omega (arith, less))
there_at (y ∷ xs) zero less = (y, refl)
there_at (y ∷ xs) (suc n) less = there_at xs n (omega (arith, less))

get_behind : (xs : List ℕ) (y : ℕ) (ys : List ℕ) (n : ℕ) → length xs ≡ n → slice_get (xs ++ y ∷ ys) n ≡ Some y
get_behind [] y ys zero e = refl
get_behind [] y ys (suc n) e = absurd (omega (arith, e))
get_behind (z ∷ xs) y ys zero e = absurd (omega (arith, e))
get_behind (z ∷ xs) y ys (suc n) e = get_behind xs y ys n (omega (arith, e))

get_front : (xs ys : List ℕ) (n y : ℕ) → slice_get xs n ≡ Some y → slice_get (xs ++ ys) n ≡ Some y
get_front [] ys n y at = absurd (let e = at in cc)
get_front (z ∷ xs) ys zero y at = at
get_front (z ∷ xs) ys (suc n) y at = get_front xs ys n y at

-- the runs of slots with files keep their names, fuel and libraries
module _ (r : SlotRun) where
  name_with : (files : List Source) (k : ℕ) → (slice_index_or (map (with_file r) files) k r).slot.name ≡ r.slot.name
  name_with [] k = refl
  name_with (x ∷ files) zero = refl
  name_with (x ∷ files) (suc k) = name_with files k

  fuel_with : (files : List Source) (k : ℕ) → (slice_index_or (map (with_file r) files) k r).fuel ≡ r.fuel
  fuel_with [] k = refl
  fuel_with (x ∷ files) zero = refl
  fuel_with (x ∷ files) (suc k) = fuel_with files k

-- the first of swaps that were judged
record Uncons (libs : List Accepted) (run : SlotRun) (runs : List SlotRun) (contents : List SlotContent) (refusals : List (Option Refusal)) : Type 0 where
  pub content : SlotContent
  pub refusal : Option Refusal
  pub cs : List SlotContent
  pub rs : List (Option Refusal)
  pub contents_are : contents ≡ content ∷ cs
  pub refusals_are : refusals ≡ refusal ∷ rs
  pub first : IsJudged run.slot (content_of libs content) refusal
  pub rest : AreJudgedSwaps libs runs cs rs

heads_run : (a b : SlotRun) (xs ys : List SlotRun) → a ∷ xs ≡ b ∷ ys → a ≡ b
heads_run a b xs ys e = cc

tails_run : (a b : SlotRun) (xs ys : List SlotRun) → a ∷ xs ≡ b ∷ ys → xs ≡ ys
tails_run a b xs ys e = cc

uncons : (libs : List Accepted) (all : List SlotRun) (run : SlotRun) (runs : List SlotRun) (contents : List SlotContent) (refusals : List (Option Refusal)) → all ≡ run ∷ runs → AreJudgedSwaps libs all contents refusals → Uncons libs run runs contents refusals
uncons libs all run runs contents refusals e no_swap = absurd (let f = e in cc)
uncons libs all run runs contents refusals e (one_swap {run = q} {content = c} {refusal = r} {runs = qs} {contents = cs} {refusals = rs} is rest) = record {
  content = c;
  refusal = r;
  cs = cs;
  rs = rs;
  contents_are = refl;
  refusals_are = refl;
  first = subst (λ (x : SlotRun). IsJudged x.slot (content_of libs c) r) (heads_run q run qs runs e) is;
  rest = subst (λ (xs : List SlotRun). AreJudgedSwaps libs xs cs rs) (tails_run q run qs runs e) rest;
}

module _ (libs : List Accepted) (runs : List SlotRun) where
  one_run : (to : ℕ) (file : Source) (q : SlotRun) → slice_get runs to ≡ Some q → swap_runs runs ((to, file) ∷ []) ≡ with_file q file ∷ []
  one_run to file q at = ap (λ (o : Option SlotRun). filter_map (λ (z : Option SlotRun). option_map (λ (run : SlotRun). with_file run file) z) (o ∷ [])) at

  first_run : (to : ℕ) (file : Source) (rest : List (ℕ × Source)) (q : SlotRun) → slice_get runs to ≡ Some q → swap_runs runs ((to, file) ∷ rest) ≡ with_file q file ∷ swap_runs runs rest
  first_run to file rest q at =
      let one : swap_runs runs ((to, file) ∷ []) ≡ with_file q file ∷ [] = one_run to file q at in
      filter_map-append (swap_run runs) ((to, file) ∷ []) rest ∙ ap (λ rs. rs ++ swap_runs runs rest) one

  -- a swap of a slot brings what was judged of its file there
  pub swap_at : (tos : List ℕ) (files : List Source) (contents : List SlotContent) (refusals : List (Option Refusal)) → All (λ to. to < length runs) tos → length files ≡ length tos
      → AreJudgedSwaps libs (swap_runs runs (zip tos files)) contents refusals → (k w : ℕ) (r : SlotRun) (c : SlotContent) (x : Option Refusal) → slice_get tos k ≡ Some w → slice_get runs w ≡ Some r
      → IsJudged (slice_index_or (map (with_file r) files) k r).slot (content_of libs (slice_index_or contents k c)) (slice_index_or refusals k x)
  swap_at [] files contents refusals there even judged k w r c x at is = absurd (let e = at in cc)
  swap_at (to ∷ tos) [] contents refusals there even judged k w r c x at is = absurd (omega (arith, even))
  swap_at (to ∷ tos) (file ∷ files) contents refusals there even judged k w r c x at is =
      let q = there_at runs to (there 0 to (omega arith)) in
      let u = uncons libs (swap_runs runs (zip (to ∷ tos) (file ∷ files))) (with_file q.0 file) (swap_runs runs (zip tos files)) contents refusals (first_run to file (zip tos files) q.0 q.1) judged in
      by k at q u (λ n e. swap_at tos files u.cs u.rs (λ i d less. there (suc i) d (omega (arith, less))) (omega (arith, even)) u.rest n w r c x e is)
    where
      by : (n : ℕ) → slice_get (to ∷ tos) n ≡ Some w → (q : (y : SlotRun) × (slice_get runs to ≡ Some y)) → (u : Uncons libs (with_file q.0 file) (swap_runs runs (zip tos files)) contents refusals)
          → ((m : ℕ) → slice_get tos m ≡ Some w → IsJudged (slice_index_or (map (with_file r) files) m r).slot (content_of libs (slice_index_or u.cs m c)) (slice_index_or u.rs m x))
          → IsJudged (slice_index_or (map (with_file r) (file ∷ files)) n r).slot (content_of libs (slice_index_or contents n c)) (slice_index_or refusals n x)
      by zero e q u more =
          let same : to ≡ w = some_is to w e in
          let run : q.0 ≡ r = some_is q.0 r (sym q.1 ∙ ap (slice_get runs) same ∙ is) in
          subst (λ cs. IsJudged (with_file r file).slot (content_of libs (slice_index_or cs 0 c)) (slice_index_or refusals 0 x)) (sym u.contents_are)
          (subst (λ rs. IsJudged (with_file r file).slot (content_of libs u.content) (slice_index_or rs 0 x)) (sym u.refusals_are)
          (subst (λ (y : SlotRun). IsJudged (with_file y file).slot (content_of libs u.content) u.refusal) run u.first))
      by (suc n) e q u more =
          subst (λ cs. IsJudged (slice_index_or (map (with_file r) files) n r).slot (content_of libs (slice_index_or cs (suc n) c)) (slice_index_or refusals (suc n) x)) (sym u.contents_are)
          (subst (λ rs. IsJudged (slice_index_or (map (with_file r) files) n r).slot (content_of libs (slice_index_or u.cs n c)) (slice_index_or rs (suc n) x)) (sym u.refusals_are) (more n e))

  -- there are as many as swaps
  pub swaps_even : (tos : List ℕ) (files : List Source) (contents : List SlotContent) (refusals : List (Option Refusal)) → All (λ to. to < length runs) tos → length files ≡ length tos
      → AreJudgedSwaps libs (swap_runs runs (zip tos files)) contents refusals → length refusals ≡ length tos
  swaps_even [] files contents refusals there even judged = by contents refusals judged where
    by : (cs : List SlotContent) (rs : List (Option Refusal)) → AreJudgedSwaps libs [] cs rs → length rs ≡ 0
    by cs rs no_swap = refl
  swaps_even (to ∷ tos) [] contents refusals there even judged = absurd (omega (arith, even))
  swaps_even (to ∷ tos) (file ∷ files) contents refusals there even judged =
      let q = there_at runs to (there 0 to (omega arith)) in
      let u = uncons libs (swap_runs runs (zip (to ∷ tos) (file ∷ files))) (with_file q.0 file) (swap_runs runs (zip tos files)) contents refusals (first_run to file (zip tos files) q.0 q.1) judged in
      ap length u.refusals_are ∙ ap suc (swaps_even tos files u.cs u.rs (λ i d less. there (suc i) d (omega (arith, less))) (omega (arith, even)) u.rest)

-- ## The last life of a slot

module _ (libs : List Accepted) (files : List Source) (swaps : List SlotContent) (brought : List (Option Refusal)) (w : ℕ) (r : SlotRun) (s : SlotSpec) (x : Option Refusal) (first : IsJudgedSlot libs r s x) where
  abbrev IsAlike : List Said → Type 0
  IsAlike done = Alike libs s.name s.fuel (last_life r (map (with_file r) files) done w) (last_life s.content swaps done w) (brought_by x brought (last_swap w (swap_slots done)))

  abbrev AreBrought : List ℕ → Type 0
  AreBrought tos = (k : ℕ) → slice_get tos k ≡ Some w → IsJudged (slice_index_or (map (with_file r) files) k r).slot (content_of libs (slice_index_or swaps k s.content)) (slice_index_or brought k x)

  alike_none : IsAlike []
  alike_none = record { name = sym first.name; fuel = sym first.fuel; items = refl; until = refl; judged = first.judged }

  -- an item that is no swap of the slot
  alike_given : (done : List Said) (i : Said) → laws.swaps w i ≡ false → last_swap w (swap_slots (done ++ i ∷ [])) ≡ last_swap w (swap_slots done) → IsAlike done → IsAlike (done ++ i ∷ [])
  alike_given done i off same a =
      subst (λ (l : Life SlotRun). Alike libs s.name s.fuel l (last_life s.content swaps (done ++ i ∷ []) w) (brought_by x brought (last_swap w (swap_slots (done ++ i ∷ []))))) (sym ((life_laws r (map (with_file r) files) w).given done i off))
      (subst (λ (m : Life SlotContent). Alike libs s.name s.fuel (laws.with_item w i (last_life r (map (with_file r) files) done w)) m (brought_by x brought (last_swap w (swap_slots (done ++ i ∷ []))))) (sym ((life_laws s.content swaps w).given done i off))
      (subst (λ o. Alike libs s.name s.fuel (laws.with_item w i (last_life r (map (with_file r) files) done w)) (laws.with_item w i (last_life s.content swaps done w)) (brought_by x brought o)) (sym same)
      (record { name = a.name; fuel = a.fuel; items = ap (λ (is : List Item). is ++ lives.gives_to w i) a.items; until = a.until; judged = a.judged })))

  -- a swap of it
  alike_swapped : (done : List Said) (to : ℕ) (file : List ℕ) → nat_eq to w ≡ true → IsJudged (slice_index_or (map (with_file r) files) (swaps_in done) r).slot (content_of libs (slice_index_or swaps (swaps_in done) s.content)) (slice_index_or brought (swaps_in done) x)
      → IsAlike (done ++ a_swap to file ∷ [])
  alike_swapped done to file on judged =
      let now : last_swap w (swap_slots (done ++ a_swap to file ∷ [])) ≡ Some (swaps_in done) =
      ap (last_swap w) (slots_append done (a_swap to file ∷ [])) ∙ last_here w (swap_slots done) to on ∙ ap Some (slots_length done) in
      subst (λ (l : Life SlotRun). Alike libs s.name s.fuel l (last_life s.content swaps (done ++ a_swap to file ∷ []) w) (brought_by x brought (last_swap w (swap_slots (done ++ a_swap to file ∷ []))))) (sym ((life_laws r (map (with_file r) files) w).swapped done (a_swap to file) on))
      (subst (λ (m : Life SlotContent). Alike libs s.name s.fuel (new_life (slice_index_or (map (with_file r) files) (swaps_in done) r)) m (brought_by x brought (last_swap w (swap_slots (done ++ a_swap to file ∷ []))))) (sym ((life_laws s.content swaps w).swapped done (a_swap to file) on))
      (subst (λ o. Alike libs s.name s.fuel (new_life (slice_index_or (map (with_file r) files) (swaps_in done) r)) (new_life (slice_index_or swaps (swaps_in done) s.content)) (brought_by x brought o)) (sym now)
      (record { name = name_with r files (swaps_in done) ∙ sym first.name; fuel = fuel_with r files (swaps_in done) ∙ sym first.fuel; items = refl; until = refl; judged = judged })))

  unswapped : (done : List Said) (i : Said) → swap_slots (i ∷ []) ≡ [] → last_swap w (swap_slots (done ++ i ∷ [])) ≡ last_swap w (swap_slots done)
  unswapped done i empty = ap (last_swap w) (slots_append done (i ∷ []) ∙ ap (λ tos. swap_slots done ++ tos) empty ∙ append-nil (swap_slots done))

  step : (done : List Said) (i : Said) (rest : List Said) → AreBrought (swap_slots (done ++ i ∷ rest)) → IsAlike done → IsAlike (done ++ i ∷ [])
  step done (an_event to kind path value) rest judged a = alike_given done (an_event to kind path value) refl (unswapped done (an_event to kind path value) refl) a
  step done (an_advance ms) rest judged a = alike_given done (an_advance ms) refl (unswapped done (an_advance ms) refl) a
  step done (a_swap to file) rest judged a = by (eqb_tells to w) where
    by : ((nat_eq to w ≡ true) × (to ≡ w)) ⊎ ((nat_eq to w ≡ false) × (to ≢ w)) → IsAlike (done ++ a_swap to file ∷ [])
    by (inl here) = alike_swapped done to file here.0 (judged (swaps_in done) (ap (λ tos. slice_get tos (swaps_in done)) (slots_append done (a_swap to file ∷ rest)) ∙ get_behind (swap_slots done) to (swap_slots rest) (swaps_in done) (slots_length done) ∙ ap Some here.1))
    by (inr other) = alike_given done (a_swap to file) other.0 (ap (last_swap w) (slots_append done (a_swap to file ∷ [])) ∙ last_elsewhere w (swap_slots done) to other.0) a

  steps : (done rest : List Said) → AreBrought (swap_slots (done ++ rest)) → IsAlike done → IsAlike (done ++ rest)
  steps done [] judged a = subst IsAlike (sym (append-nil done)) a
  steps done (i ∷ rest) judged a =
      let same : (done ++ i ∷ []) ++ rest ≡ done ++ i ∷ rest = append_assoc done (i ∷ []) rest in
      subst IsAlike same (steps (done ++ i ∷ []) rest (subst (λ its. AreBrought (swap_slots its)) (sym same) judged) (step done i rest judged a))

  -- after each of the first items
  pub alike_after : (done rest : List Said) → AreBrought (swap_slots (done ++ rest)) → IsAlike done
  alike_after done rest judged = steps [] done (λ k at. judged k (ap (λ tos. slice_get tos k) (slots_append done rest) ∙ get_front (swap_slots done) (swap_slots rest) k w at)) alike_none
