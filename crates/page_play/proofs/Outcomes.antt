-- What a page that was played comes to.
use Rattle.std.proofs.Common.{◌≡◌, ◌≢◌, ℕ, zero, suc, ◌+◌, ◌<◌, ◌≤◌, List, [], ◌∷◌, ◌++◌, map, length, take, All, Bool, true, false, Option, Some, None, refl, sym, ap, subst, ◌∙◌, arith, append_assoc, append-nil, ◌⊎◌, inl, inr}
use Rattle.std.specs.Prelude.{nat_eq, if◌then◌else◌, slice_get, slice_index_or}
use Rattle.std.specs.List.{flat_map, range_with_len}
use Rattle.std.proofs.lemmas.Bool.Decides.{eqb_tells}
use Rattle.std.proofs.lemmas.List.{length_push}
use Rattle.trace_reader.specs.Said.{Said, an_event, an_advance, a_swap}
use Rattle.slot_check.specs.declared.fault.Refusal.{Refusal}
use Rattle.slot_check.specs.Sources.{Source}
use Rattle.adsafe_rules.specs.declared.accepted.Accepted.{Accepted}
use Rattle.life_laws.specs.Fed.{Fed}
use Rattle.page_plan.specs.declared.PageSpec.{PageSpec}
use Rattle.page_plan.specs.declared.SlotContent.{SlotContent}
use Rattle.page_plan.specs.declared.SlotSpec.{SlotSpec}
use Rattle.page_check.specs.Runs.{SlotRun, with_file}
use Rattle.page_check.specs.Judged.{IsJudgedSlot, AreJudgedSlots, none, more}
use Rattle.slot_lives.specs.Lives as lives
use Rattle.slot_lives.specs.Lives.{Life, last_life, ended_at, ended_lives, ends_at}
use Rattle.slot_lives.specs.LifeLaws as laws
use Rattle.slot_lives.specs.LifeLaws.{ended_by}
use Rattle.slot_lives.specs.Ends.{run_name}
use Rattle.slot_lives.specs.Outcome.{all_lives, last_lives}
use Rattle.slot_lives.proofs.LawsHold.{life_laws}
use Rattle.page_play.specs.declared.findings.Findings.{Findings}
use Rattle.page_play.specs.Swaps.{swap_slots, swap_positions, last_swap, brought_by}
use Rattle.page_play.specs.Findings.{found_after, AreFindings, lasts_from, lasts_told, ended_told_from, ended_told}
use Rattle.page_play.specs.Played.{name_of, fed_of, begun_from, begun_in, ended_from, ended_in}
use Rattle.page_play.proofs.Begun.{begun_at, index_there}
use Rattle.page_play.proofs.Matching.{Matches, AllMatch, no_match, one_match, Alike, alike_matches}
use Rattle.page_play.proofs.Swapping.{slots_append, positions_append, positions_length}
use Rattle.page_play.proofs.Living.{alike_after, swap_at}

-- ## Lists

some_is : {A : Type 0} (x y : A) → Some x ≡ Some y → x ≡ y
some_is x y e = cc

no_some : {A : Type 0} (x : A) → None ≡ Some x → ⊥
no_some x e = cc

take_front : {A : Type 0} (xs ys : List A) (n : ℕ) → length xs ≡ n → take n (xs ++ ys) ≡ xs
take_front [] [] zero e = refl
take_front [] (y ∷ ys) zero e = refl
take_front [] ys (suc n) e = absurd (omega (arith, e))
take_front (x ∷ xs) ys zero e = absurd (omega (arith, e))
take_front (x ∷ xs) ys (suc n) e = ap (λ zs. x ∷ zs) (take_front xs ys n (omega (arith, e)))

get_behind : {A : Type 0} (xs : List A) (y : A) (ys : List A) (n : ℕ) → length xs ≡ n → slice_get (xs ++ y ∷ ys) n ≡ Some y
get_behind [] y ys zero e = refl
get_behind [] y ys (suc n) e = absurd (omega (arith, e))
get_behind (x ∷ xs) y ys zero e = absurd (omega (arith, e))
get_behind (x ∷ xs) y ys (suc n) e = get_behind xs y ys n (omega (arith, e))

all_get : {A : Type 0} (P : A → Type 0) (xs : List A) (n : ℕ) (x : A) → All P xs → slice_get xs n ≡ Some x → P x
all_get P [] n x all at = absurd (no_some x at)
all_get P (y ∷ xs) zero x all at = subst P (some_is y x at) (all 0 y (omega arith))
all_get P (y ∷ xs) (suc n) x all at = all_get P xs n x (λ i d less. all (suc i) d (omega (arith, less))) at

-- ## Slots that were judged

-- a slot by its number
record SlotAt (libs : List Accepted) (runs : List SlotRun) (slots : List SlotSpec) (refusals : List (Option Refusal)) (w : ℕ) : Type 0 where
  pub run : SlotRun
  pub slot : SlotSpec
  pub refusal : Option Refusal
  pub run_at : slice_get runs w ≡ Some run
  pub slot_at : slice_get slots w ≡ Some slot
  pub refusal_at : slice_get refusals w ≡ Some refusal
  pub judged : IsJudgedSlot libs run slot refusal

judged_at : (libs : List Accepted) (runs : List SlotRun) (slots : List SlotSpec) (refusals : List (Option Refusal)) (w : ℕ) → AreJudgedSlots libs runs slots refusals → w < length runs → SlotAt libs runs slots refusals w
judged_at libs runs slots refusals w none less = absurd (omega (arith, less))
judged_at libs runs slots refusals zero (more {run = r} {slot = s} {refusal = x} is rest) less = record { run = r; slot = s; refusal = x; run_at = refl; slot_at = refl; refusal_at = refl; judged = is }
judged_at libs runs slots refusals (suc w) (more {runs = rs} {slots = ss} {refusals = xs} is rest) less =
    let t = judged_at libs rs ss xs w rest (omega (arith, less)) in
    record { run = t.run; slot = t.slot; refusal = t.refusal; run_at = t.run_at; slot_at = t.slot_at; refusal_at = t.refusal_at; judged = t.judged }

pub judged_even : (libs : List Accepted) (runs : List SlotRun) (slots : List SlotSpec) (refusals : List (Option Refusal)) → AreJudgedSlots libs runs slots refusals → (length slots ≡ length runs) × (length refusals ≡ length runs)
judged_even libs runs slots refusals none = (refl, refl)
judged_even libs runs slots refusals (more {runs = rs} {slots = ss} {refusals = xs} is rest) = let e = judged_even libs rs ss xs rest in (ap suc e.0, ap suc e.1)

pub judged_names : (libs : List Accepted) (runs : List SlotRun) (slots : List SlotSpec) (refusals : List (Option Refusal)) → AreJudgedSlots libs runs slots refusals → map name_of slots ≡ map run_name runs
judged_names libs runs slots refusals none = refl
judged_names libs runs slots refusals (more {run = r} {slot = s} {runs = rs} {slots = ss} {refusals = xs} is rest) = ap (λ n. n ∷ map name_of ss) is.name ∙ ap (λ ns. run_name r ∷ ns) (judged_names libs rs ss xs rest)

name_at : (runs : List SlotRun) (w : ℕ) (r : SlotRun) → slice_get runs w ≡ Some r → slice_index_or (map run_name runs) w [] ≡ r.slot.name
name_at [] w r at = absurd (no_some r at)
name_at (q ∷ runs) zero r at = ap run_name (some_is q r at)
name_at (q ∷ runs) (suc w) r at = name_at runs w r at

-- ## Lives of pages

module _ (spec : PageSpec) (swaps : List SlotContent) (items : List Said) (runs : List SlotRun) (files : List Source) (f : Findings) (a : AreFindings spec swaps items runs files f) where
  -- a slot with its swaps
  alike_at : (done rest : List Said) (w : ℕ) (t : SlotAt spec.libs.items runs spec.slots.items f.refusals.items w) → items ≡ done ++ rest
      → Alike spec.libs.items t.slot.name t.slot.fuel (last_life t.run (map (with_file t.run) files) done w) (last_life t.slot.content swaps done w) (brought_by t.refusal f.brought.items (last_swap w (swap_slots done)))
  alike_at done rest w t e =
      alike_after spec.libs.items files swaps f.brought.items w t.run t.slot t.refusal t.judged done rest
      (λ k at. swap_at spec.libs.items runs (swap_slots items) files swaps f.brought.items a.there a.many a.brought k w t.run t.slot.content t.refusal (ap (λ its. slice_get (swap_slots its) k) e ∙ at) t.run_at)

  nothing_left : items ≡ items ++ []
  nothing_left = sym (append-nil items)

  -- ## The last lives

  match_last : (w : ℕ) (t : SlotAt spec.libs.items runs spec.slots.items f.refusals.items w)
      → Matches (last_life t.run (map (with_file t.run) files) items w) (fed_of spec.libs.items t.slot.fuel (last_life t.slot.content swaps items w))
      (record { name = t.run.slot.name; until = None; found = found_after f w (length f.swaps.slots.items) })
  match_last w t =
      let x = alike_at items [] w t nothing_left in
      let found : brought_by t.refusal f.brought.items (last_swap w (swap_slots items)) ≡ found_after f w (length f.swaps.slots.items) =
      ap (λ r. brought_by r f.brought.items (last_swap w (swap_slots items))) (sym (index_there f.refusals.items w t.refusal None t.refusal_at))
      ∙ ap (λ tos. brought_by (slice_index_or f.refusals.items w None) f.brought.items (last_swap w tos)) (sym (take_whole (length f.swaps.slots.items) f.swaps.slots.items refl ∙ a.swapped)) in
      subst (λ r. Matches (last_life t.run (map (with_file t.run) files) items w) (fed_of spec.libs.items t.slot.fuel (last_life t.slot.content swaps items w)) (record { name = t.run.slot.name; until = None; found = r })) found
      (subst (λ n. Matches (last_life t.run (map (with_file t.run) files) items w) (fed_of spec.libs.items t.slot.fuel (last_life t.slot.content swaps items w)) (record { name = n; until = None; found = brought_by t.refusal f.brought.items (last_swap w (swap_slots items)) })) t.judged.name
      (alike_matches spec.libs.items t.slot.name t.slot.fuel (last_life t.run (map (with_file t.run) files) items w) (last_life t.slot.content swaps items w) (brought_by t.refusal f.brought.items (last_swap w (swap_slots items))) None x
      ((life_laws t.run (map (with_file t.run) files) w).not_ended items)))
    where
      take_whole : (n : ℕ) (xs : List ℕ) → length xs ≡ n → take n xs ≡ xs
      take_whole zero [] e = refl
      take_whole zero (x ∷ xs) e = absurd (omega (arith, e))
      take_whole (suc n) [] e = refl
      take_whole (suc n) (x ∷ xs) e = ap (λ ys. x ∷ ys) (take_whole n xs (omega (arith, e)))

  lasts_from_match : (v : ℕ) (rs : List SlotRun) (ss : List SlotSpec) → length ss ≡ length rs
      → ((k : ℕ) (r : SlotRun) → slice_get rs k ≡ Some r → slice_get runs (v + k) ≡ Some r) → ((k : ℕ) (s : SlotSpec) → slice_get ss k ≡ Some s → slice_get spec.slots.items (v + k) ≡ Some s)
      → AllMatch (last_lives files items v rs) (begun_from spec swaps items v ss) (lasts_from f v (map run_name rs))
  lasts_from_match v [] [] even rt st = no_match
  lasts_from_match v [] (s ∷ ss) even rt st = absurd (omega (arith, even))
  lasts_from_match v (r ∷ rs) [] even rt st = absurd (omega (arith, even))
  lasts_from_match v (r ∷ rs) (s ∷ ss) even rt st =
      let e : v + 0 ≡ v = omega arith in
      let here : slice_get runs v ≡ Some r = ap (slice_get runs) (sym e) ∙ rt 0 r refl in
      let there : slice_get spec.slots.items v ≡ Some s = ap (slice_get spec.slots.items) (sym e) ∙ st 0 s refl in
      let t = judged_at spec.libs.items runs spec.slots.items f.refusals.items v a.slots (less runs v r here) in
      let run : t.run ≡ r = some_is t.run r (sym t.run_at ∙ here) in
      let slot : t.slot ≡ s = some_is t.slot s (sym t.slot_at ∙ there) in
      one_match
      (subst (λ (x : SlotRun). Matches (last_life x (map (with_file x) files) items v) (fed_of spec.libs.items s.fuel (last_life s.content swaps items v)) (record { name = x.slot.name; until = None; found = found_after f v (length f.swaps.slots.items) })) run
      (subst (λ (y : SlotSpec). Matches (last_life t.run (map (with_file t.run) files) items v) (fed_of spec.libs.items y.fuel (last_life y.content swaps items v)) (record { name = t.run.slot.name; until = None; found = found_after f v (length f.swaps.slots.items) })) slot
      (match_last v t)))
      (lasts_from_match (v + 1) rs ss (omega (arith, even)) (λ k q at. ap (slice_get runs) (let g : (v + 1) + k ≡ v + suc k = omega arith in g) ∙ rt (suc k) q at) (λ k q at. ap (slice_get spec.slots.items) (let g : (v + 1) + k ≡ v + suc k = omega arith in g) ∙ st (suc k) q at))
    where
      less : (xs : List SlotRun) (n : ℕ) (x : SlotRun) → slice_get xs n ≡ Some x → n < length xs
      less [] n x at = absurd (no_some x at)
      less (y ∷ xs) zero x at = omega arith
      less (y ∷ xs) (suc n) x at = let q = less xs n x at in omega (arith, q)

  pub lasts_match : AllMatch (last_lives files items 0 runs) (begun_in spec swaps items) (lasts_told f)
  lasts_match =
      subst (λ ns. AllMatch (last_lives files items 0 runs) (begun_in spec swaps items) (lasts_from f 0 ns)) (sym a.names)
      (lasts_from_match 0 runs spec.slots.items (judged_even spec.libs.items runs spec.slots.items f.refusals.items a.slots).0 (λ k r at. ap (slice_get runs) (let g : 0 + k ≡ k = omega arith in g) ∙ at) (λ k s at. ap (slice_get spec.slots.items) (let g : 0 + k ≡ k = omega arith in g) ∙ at))

  -- ## The lives that swaps end

  ended_append : (n : ℕ) (xs ys : List (Life SlotRun)) → ended_at n (xs ++ ys) ≡ ended_at n xs ++ ended_at n ys
  ended_append n [] ys = refl
  ended_append n (x ∷ xs) ys = by (ends_at n x.until) (ended_append n xs ys) where
    by : (b : Bool) → ended_at n (xs ++ ys) ≡ ended_at n xs ++ ended_at n ys → (if b then x ∷ ended_at n (xs ++ ys) else ended_at n (xs ++ ys)) ≡ (if b then x ∷ ended_at n xs else ended_at n xs) ++ ended_at n ys
    by true e = ap (λ zs. x ∷ zs) e
    by false e = e

  -- an item that is no swap ends none
  none_ends : (p : ℕ) (i : Said) (v : ℕ) (rs : List SlotRun) → slice_get items p ≡ Some i → ((w : ℕ) → v ≤ w → laws.swaps w i ≡ false) → ended_at (p + 1) (flat_map (λ ls. ls) (all_lives files items v rs)) ≡ []
  none_ends p i v [] at off = refl
  none_ends p i v (r ∷ rs) at off =
      ended_append (p + 1) (lives.lives r (map (with_file r) files) items v) (flat_map (λ ls. ls) (all_lives files items (v + 1) rs))
      ∙ ap (λ ls. ls ++ ended_at (p + 1) (flat_map (λ ls. ls) (all_lives files items (v + 1) rs))) ((life_laws r (map (with_file r) files) v).none_ended items p i at (off v (omega arith)))
      ∙ none_ends p i (v + 1) rs at (λ w past. off w (omega (arith, past)))

  -- a swap ends the last life of its slot until then
  one_ends : (p to : ℕ) (file : List ℕ) (v k : ℕ) (rs : List SlotRun) (r : SlotRun) → slice_get items p ≡ Some (a_swap to file) → v + k ≡ to → slice_get rs k ≡ Some r
      → ended_at (p + 1) (flat_map (λ ls. ls) (all_lives files items v rs)) ≡ ended_by (p + 1) (last_life r (map (with_file r) files) (take p items) to) ∷ []
  one_ends p to file v k [] r at e is = absurd (no_some r is)
  one_ends p to file v zero (q ∷ rs) r at e is =
      let here : v ≡ to = omega (arith, e) in
      ended_append (p + 1) (lives.lives q (map (with_file q) files) items v) (flat_map (λ ls. ls) (all_lives files items (v + 1) rs))
      ∙ ap (λ ls. ended_at (p + 1) (lives.lives q (map (with_file q) files) items v) ++ ls) (none_ends p (a_swap to file) (v + 1) rs at (λ w past. other (eqb_tells to w) (λ same. absurd (omega (arith, same, past, here)))))
      ∙ append-nil (ended_at (p + 1) (lives.lives q (map (with_file q) files) items v))
      ∙ ap (λ w. ended_at (p + 1) (lives.lives q (map (with_file q) files) items w)) here
      ∙ (life_laws q (map (with_file q) files) to).ended items p (a_swap to file) at (this (eqb_tells to to))
      ∙ ap (λ (x : SlotRun). ended_by (p + 1) (last_life x (map (with_file x) files) (take p items) to) ∷ []) (some_is q r is)
    where
      other : {w : ℕ} → ((nat_eq to w ≡ true) × (to ≡ w)) ⊎ ((nat_eq to w ≡ false) × (to ≢ w)) → (to ≢ w) → nat_eq to w ≡ false
      other (inl same) apart = absurd (apart same.1)
      other (inr is_other) apart = is_other.0

      this : ((nat_eq to to ≡ true) × (to ≡ to)) ⊎ ((nat_eq to to ≡ false) × (to ≢ to)) → nat_eq to to ≡ true
      this (inl same) = same.0
      this (inr is_other) = absurd (is_other.1 refl)
  one_ends p to file v (suc k) (q ∷ rs) r at e is =
      ended_append (p + 1) (lives.lives q (map (with_file q) files) items v) (flat_map (λ ls. ls) (all_lives files items (v + 1) rs))
      ∙ ap (λ ls. ls ++ ended_at (p + 1) (flat_map (λ ls. ls) (all_lives files items (v + 1) rs))) ((life_laws q (map (with_file q) files) v).none_ended items p (a_swap to file) at (other (eqb_tells to v)))
      ∙ one_ends p to file (v + 1) k rs r at (omega (arith, e)) is
    where
      other : ((nat_eq to v ≡ true) × (to ≡ v)) ⊎ ((nat_eq to v ≡ false) × (to ≢ v)) → nat_eq to v ≡ false
      other (inl same) = let f = same.1 in absurd (omega (arith, f, e))
      other (inr is_other) = is_other.0

  -- one swap, behind these items
  match_ended : (done : List Said) (to : ℕ) (file : List ℕ) (rest : List Said) (t : SlotAt spec.libs.items runs spec.slots.items f.refusals.items to) → items ≡ done ++ a_swap to file ∷ rest
      → Matches (ended_by (length done + 1) (last_life t.run (map (with_file t.run) files) (take (length done) items) to)) (slice_index_or (begun_in spec swaps done) to None)
      (record { name = slice_index_or f.names.items to []; until = Some (slice_index_or f.swaps.positions.items (length (swap_slots done)) 0); found = found_after f to (length (swap_slots done)) })
  match_ended done to file rest t e =
      let x = alike_at done (a_swap to file ∷ rest) to t e in
      let n = length done + 1 in
      let l = last_life t.run (map (with_file t.run) files) done to in
      let m = last_life t.slot.content swaps done to in
      let r0 = brought_by t.refusal f.brought.items (last_swap to (swap_slots done)) in
      let before : take (length done) items ≡ done = ap (take (length done)) e ∙ take_front done (a_swap to file ∷ rest) (length done) refl in
      let fed : slice_index_or (begun_in spec swaps done) to None ≡ fed_of spec.libs.items t.slot.fuel m =
      index_there (begun_in spec swaps done) to (fed_of spec.libs.items t.slot.fuel (last_life t.slot.content swaps done (0 + to))) None (begun_at spec swaps done 0 to spec.slots.items t.slot t.slot_at)
      ∙ ap (λ k. fed_of spec.libs.items t.slot.fuel (last_life t.slot.content swaps done k)) (let g : 0 + to ≡ to = omega arith in g) in
      let name : t.slot.name ≡ slice_index_or f.names.items to [] = t.judged.name ∙ sym (ap (λ ns. slice_index_or ns to []) a.names ∙ name_at runs to t.run t.run_at) in
      let slots : f.swaps.slots.items ≡ swap_slots done ++ to ∷ swap_slots rest = a.swapped ∙ ap swap_slots e ∙ slots_append done (a_swap to file ∷ rest) in
      let found : r0 ≡ found_after f to (length (swap_slots done)) =
      ap (λ r. brought_by r f.brought.items (last_swap to (swap_slots done))) (sym (index_there f.refusals.items to t.refusal None t.refusal_at))
      ∙ ap (λ tos. brought_by (slice_index_or f.refusals.items to None) f.brought.items (last_swap to tos)) (sym (ap (take (length (swap_slots done))) slots ∙ take_front (swap_slots done) (to ∷ swap_slots rest) (length (swap_slots done)) refl)) in
      let places : f.swaps.positions.items ≡ swap_positions 0 done ++ ((0 + length done) + 1) ∷ swap_positions ((0 + length done) + 1) rest = a.positions ∙ ap (swap_positions 0) e ∙ positions_append 0 done (a_swap to file ∷ rest) in
      let until : n ≡ slice_index_or f.swaps.positions.items (length (swap_slots done)) 0 =
      sym (index_there f.swaps.positions.items (length (swap_slots done)) ((0 + length done) + 1) 0 (ap (λ ps. slice_get ps (length (swap_slots done))) places ∙ get_behind (swap_positions 0 done) ((0 + length done) + 1) (swap_positions ((0 + length done) + 1) rest) (length (swap_slots done)) (positions_length 0 done))
      ∙ (let g : (0 + length done) + 1 ≡ length done + 1 = omega arith in g)) in
      subst (λ its. Matches (ended_by n (last_life t.run (map (with_file t.run) files) its to)) (slice_index_or (begun_in spec swaps done) to None) (record { name = slice_index_or f.names.items to []; until = Some (slice_index_or f.swaps.positions.items (length (swap_slots done)) 0); found = found_after f to (length (swap_slots done)) })) (sym before)
      (subst (λ (o : Option Fed). Matches (ended_by n l) o (record { name = slice_index_or f.names.items to []; until = Some (slice_index_or f.swaps.positions.items (length (swap_slots done)) 0); found = found_after f to (length (swap_slots done)) })) (sym fed)
      (subst (λ k. Matches (ended_by n l) (fed_of spec.libs.items t.slot.fuel m) (record { name = slice_index_or f.names.items to []; until = Some k; found = found_after f to (length (swap_slots done)) })) until
      (subst (λ ns. Matches (ended_by n l) (fed_of spec.libs.items t.slot.fuel m) (record { name = ns; until = Some n; found = found_after f to (length (swap_slots done)) })) name
      (subst (λ r. Matches (ended_by n l) (fed_of spec.libs.items t.slot.fuel m) (record { name = t.slot.name; until = Some n; found = r })) found
      (alike_matches spec.libs.items t.slot.name t.slot.fuel (ended_by n l) (ended_by n m) r0 (Some n) (record { name = x.name; fuel = x.fuel; items = x.items; until = refl; judged = x.judged }) refl)))))

  ended_from_match : (done rest : List Said) (n k : ℕ) → items ≡ done ++ rest → n ≡ length done + 1 → k ≡ length (swap_slots done)
      → AllMatch (flat_map (λ m. ended_at m (flat_map (λ ls. ls) (all_lives files items 0 runs))) (range_with_len n (length rest))) (ended_from spec swaps done rest) (ended_told_from f k (swap_slots rest))
  ended_from_match done [] n k e pos count = no_match
  ended_from_match done (an_event to kind path value ∷ rest) n k e pos count =
      subst (λ ls. AllMatch (ls ++ flat_map (λ m. ended_at m (flat_map (λ ls. ls) (all_lives files items 0 runs))) (range_with_len (n + 1) (length rest))) (ended_from spec swaps (done ++ an_event to kind path value ∷ []) rest) (ended_told_from f k (swap_slots rest)))
      (sym (ap (λ m. ended_at m (flat_map (λ ls. ls) (all_lives files items 0 runs))) pos ∙ none_ends (length done) (an_event to kind path value) 0 runs (ap (λ its. slice_get its (length done)) e ∙ get_behind done (an_event to kind path value) rest (length done) refl) (λ w past. refl)))
      (ended_from_match (done ++ an_event to kind path value ∷ []) rest (n + 1) k (e ∙ sym (append_assoc done (an_event to kind path value ∷ []) rest)) (omega (arith, pos, length_push done (an_event to kind path value))) (count ∙ ap length (sym (slots_append done (an_event to kind path value ∷ []) ∙ append-nil (swap_slots done)))))
  ended_from_match done (an_advance ms ∷ rest) n k e pos count =
      subst (λ ls. AllMatch (ls ++ flat_map (λ m. ended_at m (flat_map (λ ls. ls) (all_lives files items 0 runs))) (range_with_len (n + 1) (length rest))) (ended_from spec swaps (done ++ an_advance ms ∷ []) rest) (ended_told_from f k (swap_slots rest)))
      (sym (ap (λ m. ended_at m (flat_map (λ ls. ls) (all_lives files items 0 runs))) pos ∙ none_ends (length done) (an_advance ms) 0 runs (ap (λ its. slice_get its (length done)) e ∙ get_behind done (an_advance ms) rest (length done) refl) (λ w past. refl)))
      (ended_from_match (done ++ an_advance ms ∷ []) rest (n + 1) k (e ∙ sym (append_assoc done (an_advance ms ∷ []) rest)) (omega (arith, pos, length_push done (an_advance ms))) (count ∙ ap length (sym (slots_append done (an_advance ms ∷ []) ∙ append-nil (swap_slots done)))))
  ended_from_match done (a_swap to file ∷ rest) n k e pos count =
      let less : to < length runs = all_get (λ x. x < length runs) (swap_slots items) (length (swap_slots done)) to a.there (ap (λ its. slice_get (swap_slots its) (length (swap_slots done))) e ∙ ap (λ tos. slice_get tos (length (swap_slots done))) (slots_append done (a_swap to file ∷ rest)) ∙ get_behind (swap_slots done) to (swap_slots rest) (length (swap_slots done)) refl) in
      let t = judged_at spec.libs.items runs spec.slots.items f.refusals.items to a.slots less in
      subst (λ ls. AllMatch (ls ++ flat_map (λ m. ended_at m (flat_map (λ ls. ls) (all_lives files items 0 runs))) (range_with_len (n + 1) (length rest))) (ended_from spec swaps done (a_swap to file ∷ rest)) (ended_told_from f k (to ∷ swap_slots rest)))
      (sym (ap (λ m. ended_at m (flat_map (λ ls. ls) (all_lives files items 0 runs))) pos ∙ one_ends (length done) to file 0 to runs t.run (ap (λ its. slice_get its (length done)) e ∙ get_behind done (a_swap to file) rest (length done) refl) (omega arith) t.run_at))
      (one_match
      (subst (λ j. Matches (ended_by (length done + 1) (last_life t.run (map (with_file t.run) files) (take (length done) items) to)) (slice_index_or (begun_in spec swaps done) to None) (record { name = slice_index_or f.names.items to []; until = Some (slice_index_or f.swaps.positions.items j 0); found = found_after f to j })) (sym count)
      (match_ended done to file rest t e))
      (ended_from_match (done ++ a_swap to file ∷ []) rest (n + 1) (k + 1) (e ∙ sym (append_assoc done (a_swap to file ∷ []) rest)) (omega (arith, pos, length_push done (a_swap to file)))
      (ap (λ j. j + 1) count ∙ sym (ap length (slots_append done (a_swap to file ∷ [])) ∙ length_push (swap_slots done) to))))

  pub ended_match : AllMatch (ended_lives (all_lives files items 0 runs) (length items)) (ended_in spec swaps items) (ended_told f)
  ended_match =
      subst (λ tos. AllMatch (ended_lives (all_lives files items 0 runs) (length items)) (ended_in spec swaps items) (ended_told_from f 0 tos)) (sym a.swapped)
      (ended_from_match [] items 1 0 refl refl refl)
