-- Items of a trace that are given, one after the other.
use Rattle.std.proofs.Common.{◌≡◌, ℕ, zero, suc, ◌+◌, ◌<◌, ◌≤◌, List, [], ◌∷◌, ◌++◌, map, length, take, drop, get_or, All, Option, Some, None, refl, sym, ap, subst, ◌∙◌, arith}
use Rattle.std.specs.Prelude.{slice_get, option_to_list, OnOk, Result, Ok, Err}
use Rattle.std.proofs.lemmas.List.{map-append, length-map}
use Rattle.std.proofs.lemmas.Result.{on_ok_weaker}
use Rattle.adsafe_rules.specs.Accepts.{tree_of}
use Rattle.trace_reader.specs.Items.{longest_advance}
use Rattle.trace_reader.specs.declared.item.TraceItem.{TraceItem}
use Rattle.trace_reader.specs.declared.item.TraceItem.TheVariants as item
use Rattle.trace_reader.specs.Said.{Said, said, an_event, an_advance, a_swap}
use Rattle.page_plan.specs.declared.PageSpec.{PageSpec}
use Rattle.page_plan.specs.declared.SlotContent.{SlotContent}
use Rattle.page_plan.specs.Loadable.{AreLoadableSwaps, none, more, IsSwapLoadable, names_of}
use Rattle.slot_lives.specs.Lives.{swaps_in}
use Rattle.widget_host.specs.declared.host.Host.{Host}
use Rattle.widget_host.specs.declared.items.HostItem.{HostItem}
use Rattle.widget_host.specs.Housed.{chains, ends, libraries, names}
use Rattle.page_play.specs.Swaps.{swap_slots}
use Rattle.page_play.specs.Played.{IsFor}
use Rattle.page_play.specs.Playing.{MayGive, Plays}
use Rattle.page_play.specs.Playing as playing
use Rattle.page_play.specs.Settled.{said_of}
use Rattle.page_play.proofs.Given.{item_swaps, swap_swaps}
use Rattle.page_play.proofs.Swapping.{slots_append, slots_length}

some_is : {A : Type 0} (x y : A) → Some x ≡ Some y → x ≡ y
some_is x y e = cc

no_some : {A : Type 0} (x : A) → None ≡ Some x → ⊥
no_some x e = cc

drop_none : {A : Type 0} (zs : List A) → zs ≡ drop 0 zs
drop_none [] = refl
drop_none (w ∷ zs) = refl

-- the first of what is left, and what is left behind it
pub drop_head : {A : Type 0} (xs : List A) (n : ℕ) (x : A) (ys : List A) → x ∷ ys ≡ drop n xs → slice_get xs n ≡ Some x
drop_head [] zero x ys e = absurd (let f = e in cc)
drop_head [] (suc n) x ys e = absurd (let f = e in cc)
drop_head (z ∷ xs) zero x ys e = ap Some (let f : z ≡ x = cc in f)
drop_head (z ∷ xs) (suc n) x ys e = drop_head xs n x ys e

pub drop_tail : {A : Type 0} (xs : List A) (n : ℕ) (x : A) (ys : List A) → x ∷ ys ≡ drop n xs → ys ≡ drop (n + 1) xs
drop_tail [] zero x ys e = absurd (let f = e in cc)
drop_tail [] (suc n) x ys e = absurd (let f = e in cc)
drop_tail (z ∷ xs) zero x ys e = let f : ys ≡ xs = cc in f ∙ drop_none xs
drop_tail (z ∷ xs) (suc n) x ys e = let g : suc n + 1 ≡ suc (n + 1) = omega arith in drop_tail xs n x ys e ∙ ap (λ k. drop k (z ∷ xs)) (sym g)

drop_there : {A : Type 0} (xs : List A) (n : ℕ) (x : A) → slice_get xs n ≡ Some x → drop n xs ≡ x ∷ drop (n + 1) xs
drop_there [] n x at = absurd (no_some x at)
drop_there (y ∷ xs) zero x at = let e : y ≡ x = some_is y x at in ap (λ z. z ∷ xs) e ∙ ap (λ zs. x ∷ zs) (drop_none xs)
drop_there (y ∷ xs) (suc n) x at = let g : suc n + 1 ≡ suc (n + 1) = omega arith in drop_there xs n x at ∙ ap (λ k. x ∷ drop k (y ∷ xs)) (sym g)

-- a swap that may be loaded, by its number
loadable_at : (many : ℕ) (ns : List (List ℕ)) (tos : List ℕ) (contents : List SlotContent) (k to : ℕ) → AreLoadableSwaps many ns tos contents → slice_get tos k ≡ Some to
    → (content : SlotContent) × (slice_get contents k ≡ Some content) × ((name : List ℕ) → slice_get ns to ≡ Some name → IsSwapLoadable many name content)
loadable_at many ns tos contents k to none at = absurd (no_some to at)
loadable_at many ns tos contents zero to (more {to = x} {name = n} {content = c} there is rest) at =
    (c, refl, λ name named. subst (λ m. IsSwapLoadable many m c) (some_is n name (sym there ∙ ap (slice_get ns) (some_is x to at) ∙ named)) is)
loadable_at many ns tos contents (suc k) to (more {tos = xs} {contents = cs} there is rest) at = loadable_at many ns xs cs k to rest at

loadable_length : (many : ℕ) (ns : List (List ℕ)) (tos : List ℕ) (contents : List SlotContent) → AreLoadableSwaps many ns tos contents → length tos ≡ length contents
loadable_length many ns tos contents none = refl
loadable_length many ns tos contents (more {tos = xs} {contents = cs} there is rest) = ap suc (loadable_length many ns xs cs rest)

pub whole_swaps : (spec : PageSpec) (items : List Said) (swaps : List SlotContent) → AreLoadableSwaps (length spec.libs.items) (names_of spec) (swap_slots items) swaps → swaps_in items ≡ length swaps
whole_swaps spec items swaps loadable = sym (slots_length items) ∙ loadable_length (length spec.libs.items) (names_of spec) (swap_slots items) swaps loadable

-- an item behind others
split_at : (xs : List TraceItem) (n : ℕ) (x : TraceItem) → n < length xs → x ≡ get_or xs n x → xs ≡ take n xs ++ x ∷ drop (n + 1) xs
split_at [] n x less is = absurd (omega (arith, less))
split_at (y ∷ xs) zero x less is = let e : x ≡ y = is in ap (λ z. z ∷ xs) (sym e) ∙ ap (λ zs. x ∷ zs) (drop_none xs)
split_at (y ∷ xs) (suc n) x less is = let g : suc n + 1 ≡ suc (n + 1) = omega arith in ap (λ zs. y ∷ zs) (split_at xs n x (omega (arith, less)) is) ∙ ap (λ k. y ∷ (take n xs ++ x ∷ drop k (y ∷ xs))) (sym g)

get_behind : (xs : List ℕ) (y : ℕ) (ys : List ℕ) (n : ℕ) → length xs ≡ n → slice_get (xs ++ y ∷ ys) n ≡ Some y
get_behind [] y ys zero e = refl
get_behind [] y ys (suc n) e = absurd (omega (arith, e))
get_behind (x ∷ xs) y ys zero e = absurd (omega (arith, e))
get_behind (x ∷ xs) y ys (suc n) e = get_behind xs y ys n (omega (arith, e))

within : {A : Type 0} (xs : List A) (n : ℕ) (x : A) → slice_get xs n ≡ Some x → n < length xs
within [] n x at = absurd (no_some x at)
within (y ∷ xs) zero x at = omega arith
within (y ∷ xs) (suc n) x at = let r = within xs n x at in omega (arith, r)

-- each item is for a slot of the page
pub item_for : (slots : ℕ) (xs : List TraceItem) (n : ℕ) (x : TraceItem) → n < length xs → x ≡ get_or xs n x → All (IsFor slots) (map said xs) → IsFor slots (said x)
item_for slots [] n x less is all = absurd (omega (arith, less))
item_for slots (y ∷ ys) zero x less is all = subst (λ t. IsFor slots (said t)) (sym is) (all 0 (said y) (omega arith))
item_for slots (y ∷ ys) (suc n) x less is all = item_for slots ys n x (omega (arith, less)) is (λ k d lt. all (suc k) d (omega (arith, lt)))

-- the next item of a trace may be given
module _ (spec : PageSpec) (swaps : List SlotContent) (all done : List TraceItem) (left : List SlotContent) (h : Host)
    (each : All (IsFor (length spec.slots.items)) (map said all)) (loadable : AreLoadableSwaps (length spec.libs.items) (names_of spec) (swap_slots (map said all)) swaps) (few : length swaps ≤ 4)
    (front : done ≡ take (length done) all) (p : Plays spec swaps (map said done) h) (left_is : left ≡ drop (swaps_in (map said done)) swaps) where
  by_kind : (x : TraceItem) → length done < length all → x ≡ get_or all (length done) x → IsFor (length spec.slots.items) (said x) → MayGive left h (said x)
  by_kind (item.Event to e) less is its = playing.an_event (omega (arith, its, p.slots))
  by_kind (item.Advance ms) less is its = playing.an_advance its
  by_kind (item.Swap to file) less is its =
      let k = swaps_in (map said done) in
      let whole : all ≡ done ++ item.Swap to file ∷ drop (length done + 1) all = split_at all (length done) (item.Swap to file) less is ∙ ap (λ ds. ds ++ item.Swap to file ∷ drop (length done + 1) all) (sym front) in
      let tos : swap_slots (map said all) ≡ swap_slots (map said done) ++ to ∷ swap_slots (map said (drop (length done + 1) all)) =
      ap (λ xs. swap_slots (map said xs)) whole ∙ ap swap_slots (map-append said done (item.Swap to file ∷ drop (length done + 1) all)) ∙ slots_append (map said done) (map said (item.Swap to file ∷ drop (length done + 1) all)) in
      let at : slice_get (swap_slots (map said all)) k ≡ Some to = ap (λ xs. slice_get xs k) tos ∙ get_behind (swap_slots (map said done)) to (swap_slots (map said (drop (length done + 1) all))) k (slots_length (map said done)) in
      let one = loadable_at (length spec.libs.items) (names_of spec) (swap_slots (map said all)) swaps k to loadable at in
      let below = within swaps k one.0 one.1 in
      playing.a_swap one.0 (drop (k + 1) swaps) (omega (arith, its, p.slots)) (omega (arith, p.swapped, below, few)) (left_is ∙ drop_there swaps k one.0 one.1)
      (λ name named. subst (λ n. IsSwapLoadable n name one.0) (sym (ap length p.libraries ∙ length-map spec.libs.items tree_of)) (one.2 name (ap (λ ns. slice_get ns to) (sym p.names) ∙ named)))

  pub may_give : (x : TraceItem) → length done < length all → x ≡ get_or all (length done) x → MayGive left h (said x)
  may_give x less is = by_kind x less is (item_for (length spec.slots.items) all (length done) x less is each)

same_all : (xs : List TraceItem) → map (λ x. x) xs ≡ xs
same_all [] = refl
same_all (x ∷ xs) = ap (λ ys. x ∷ ys) (same_all xs)

pub same_items : (xs ys : List TraceItem) → map (λ x. x) xs ≡ ys → xs ≡ ys
same_items xs ys is = sym (same_all xs) ∙ is

-- ## What giving an item does

on_ok_all : {A E P : Type 0} (r : Result A E) → P → OnOk r P
on_ok_all (Ok x) p = p
on_ok_all (Err e) p = tt

-- an item that is queued
pub given_as : {A E : Type 0} (r : Result A E) (x : Said) (i : HostItem) (left : List SlotContent) (old new : Host) → x ≡ said_of i
    → OnOk r ((spec : PageSpec) (swaps : List SlotContent) (items : List Said) → Plays spec swaps items old → Plays spec swaps (items ++ said_of i ∷ []) new)
    → OnOk r ((spec : PageSpec) (swaps : List SlotContent) (items : List Said) → left ≡ drop (swaps_in items) swaps → Plays spec swaps items old → Plays spec swaps (items ++ x ∷ []) new)
given_as r x i left old new same gives = on_ok_weaker r (λ f spec swaps items l p. subst (λ s. Plays spec swaps (items ++ s ∷ []) new) (sym same) (f spec swaps items p)) gives

pub left_as : {A E : Type 0} (r : Result A E) (x : Said) (i : HostItem) (left : List SlotContent) → x ≡ said_of i
    → OnOk r ((swaps : List SlotContent) (items : List Said) → left ≡ drop (swaps_in items) swaps → left ≡ drop (swaps_in (items ++ x ∷ [])) swaps)
left_as r x i left same = on_ok_all r (λ swaps items l. l ∙ ap (λ n. drop n swaps) (sym (ap (λ s. swaps_in (items ++ s ∷ [])) same ∙ item_swaps items i)))

-- the first of what is left
pub popped : {A : Type 0} (old new : List A) (o : Option A) (x : A) → o ≡ Some x → old ≡ option_to_list o ++ new → old ≡ x ∷ new
popped old new o x is e = e ∙ ap (λ p. option_to_list p ++ new) is

-- a swap
pub swap_given : {A E : Type 0} (r : Result A E) (x : Said) (to : ℕ) (file : List ℕ) (content : SlotContent) (left behind : List SlotContent) (old new : Host) → x ≡ a_swap to file → left ≡ content ∷ behind
    → OnOk r ((spec : PageSpec) (swaps : List SlotContent) (items : List Said) (name : List ℕ) → slice_get swaps (swaps_in items) ≡ Some content → Plays spec swaps items old → Plays spec swaps (items ++ a_swap to name ∷ []) new)
    → OnOk r ((spec : PageSpec) (swaps : List SlotContent) (items : List Said) → left ≡ drop (swaps_in items) swaps → Plays spec swaps items old → Plays spec swaps (items ++ x ∷ []) new)
swap_given r x to file content left rest old new same first gives =
    on_ok_weaker r (λ f spec swaps items l p. subst (λ s. Plays spec swaps (items ++ s ∷ []) new) (sym same) (f spec swaps items file (drop_head swaps (swaps_in items) content rest (sym first ∙ l)) p)) gives

pub swap_left : {A E : Type 0} (r : Result A E) (x : Said) (to : ℕ) (file : List ℕ) (content : SlotContent) (left behind : List SlotContent) → x ≡ a_swap to file → left ≡ content ∷ behind
    → OnOk r ((swaps : List SlotContent) (items : List Said) → left ≡ drop (swaps_in items) swaps → behind ≡ drop (swaps_in (items ++ x ∷ [])) swaps)
swap_left r x to file content left rest same first =
    on_ok_all r (λ swaps items l. drop_tail swaps (swaps_in items) content rest (sym first ∙ l) ∙ ap (λ n. drop n swaps) (sym (ap (λ s. swaps_in (items ++ s ∷ [])) same ∙ swap_swaps items to file)))

-- what a swap asks for
record SwapAsks (to : ℕ) (left : List SlotContent) (h : Host) : Type 0 where
  pub content : SlotContent
  pub rest : List SlotContent
  pub there : to < length (chains h)
  pub few : length (ends h) < 4
  pub first : left ≡ content ∷ rest
  pub loadable : (name : List ℕ) → slice_get (names h) to ≡ Some name → IsSwapLoadable (length (libraries h)) name content

asks_of : (left : List SlotContent) (h : Host) (x : Said) (to : ℕ) (file : List ℕ) → x ≡ a_swap to file → MayGive left h x → SwapAsks to left h
asks_of left h x to file e (playing.an_event within) = absurd (let f = e in cc)
asks_of left h x to file e (playing.an_advance within) = absurd (let f = e in cc)
asks_of left h x to file e (playing.a_swap {to = u} {file = g} content rest there few first loadable) =
    let same : u ≡ to = cc in
    record {
      content = content;
      rest = rest;
      there = subst (λ n. n < length (chains h)) same there;
      few = few;
      first = first;
      loadable = λ name named. loadable name (ap (slice_get (names h)) same ∙ named);
    }

module _ (left behind : List SlotContent) (h : Host) (x : Said) (to : ℕ) (file : List ℕ) (content : SlotContent) (same : x ≡ a_swap to file) (may : MayGive left h x) where
  pub swap_there : to < length (chains h)
  swap_there = (asks_of left h x to file same may).there

  pub swap_few : length (ends h) < 4
  swap_few = (asks_of left h x to file same may).few

  pub swap_loadable : left ≡ content ∷ behind → (name : List ℕ) → slice_get (names h) to ≡ Some name → IsSwapLoadable (length (libraries h)) name content
  swap_loadable first name named =
      let a = asks_of left h x to file same may in
      let one : a.content ≡ content = (let e : a.content ∷ a.rest ≡ content ∷ behind = sym a.first ∙ first in cc) in
      subst (IsSwapLoadable (length (libraries h)) name) one (a.loadable name named)

-- there is a content for it
drop_one : {A : Type 0} (xs : List A) → xs ≡ drop 1 xs → xs ≡ []
drop_one [] e = refl
drop_one (x ∷ xs) e = absurd (omega (arith, ap length e, ap length (sym (drop_none xs))))

pub swap_some : (left behind : List SlotContent) (h : Host) (x : Said) (to : ℕ) (file : List ℕ) → x ≡ a_swap to file → MayGive left h x → left ≡ behind → behind ≡ drop 1 left → ⊥
swap_some left behind h x to file same may is rest =
    let a = asks_of left h x to file same may in
    let e : a.content ∷ a.rest ≡ [] = sym a.first ∙ drop_one left (is ∙ rest) in
    cc

-- an event and an advance
pub event_there : (left : List SlotContent) (h : Host) (x : Said) (to : ℕ) (kind path : List ℕ) (value : Option (List ℕ)) → x ≡ an_event to kind path value → MayGive left h x → to < length (chains h)
event_there left h x to kind path value e (playing.an_event {to = u} within) = let same : u ≡ to = cc in subst (λ n. n < length (chains h)) same within
event_there left h x to kind path value e (playing.an_advance within) = absurd (let f = e in cc)
event_there left h x to kind path value e (playing.a_swap content rest there few first loadable) = absurd (let f = e in cc)

pub advance_short : (left : List SlotContent) (h : Host) (x : Said) (ms : ℕ) → x ≡ an_advance ms → MayGive left h x → ms ≤ longest_advance
advance_short left h x ms e (playing.an_event within) = absurd (let f = e in cc)
advance_short left h x ms e (playing.an_advance {ms = d} within) = let same : d ≡ ms = cc in subst (λ n. n ≤ longest_advance) same within
advance_short left h x ms e (playing.a_swap content rest there few first loadable) = absurd (let f = e in cc)
