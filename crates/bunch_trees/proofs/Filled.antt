-- An Array that is born before its Bunches and filled after them.
use Rattle.std.proofs.Common.{◌≡◌, ℕ, zero, suc, ◌+◌, ◌<◌, List, [], ◌∷◌, ◌++◌, Bool, true, false, refl, sym, ap, ◌∙◌, length, length-append, Some, arith, take, subst, if◌then◌else◌}
use Rattle.std.specs.Prelude.{get_or, slice_index_or, slice_set}
use Rattle.std.specs.List.{fold}
use Rattle.std.proofs.lemmas.List.{length-map, map-append, take_more}
use Rattle.std.proofs.lemmas.List.FromFn.{length-map-range_with_len}
use Rattle.js_tree.specs.Forest.{Forest}
use Rattle.store_cells.specs.declared.value.Value.{Value as StoreValue}
use Rattle.store_cells.specs.declared.value.Value.TheVariants as value
use Rattle.store_cells.specs.Cells.{Cells, PlainCell, own_count}
use Rattle.object_store.specs.Owned as store
use Rattle.object_store.specs.Owned.{visible_at}
use Rattle.widget_meaning.specs.Values.{Own, Value}
use Rattle.widget_meaning.specs.BunchReads.{bunches_from, exploded, with_bunch}
use Rattle.widget_meaning.specs.ListChanges.{pushed}
use Rattle.widget_meaning.specs.NativeForms.{numbered_pairs}
use Rattle.widget_meaning.specs.OwnState.{Cell, State, array_length, cell_at, kind_of, new_array, new_bunch, plain_object, with_cell, with_new_cell, with_own}
use Rattle.widget_meaning.specs.Properties.{index_name}
use Rattle.js_image.specs.Held.{AreFine, IsFine, IsHeld, Kept}
use Rattle.js_image.specs.Image.{Rest, all_seen, image, meant, seen}
use Rattle.js_image.specs.Plans.{PushedAt}
use Rattle.js_image.proofs.Grown.{seen_stays}
use Rattle.bunch_trees.specs.Explodes.{IsEmptyArray, filled}

-- ## Lists

set_last : {X : Type 0} (xs : List X) (x y : X) → slice_set (xs ++ x ∷ []) (length xs) y ≡ xs ++ y ∷ []
set_last [] x y = refl
set_last (z ∷ xs) x y = ap (λ l. z ∷ l) (set_last xs x y)

at_last : {X : Type 0} (xs : List X) (x d : X) → slice_index_or (xs ++ x ∷ []) (length xs) d ≡ x
at_last [] x d = refl
at_last (z ∷ xs) x d = at_last xs x d

set_before : {X : Type 0} (xs : List X) (n : ℕ) (x y : X) → n < length xs → slice_set (xs ++ x ∷ []) n y ≡ slice_set xs n y ++ x ∷ []
set_before [] n x y lt = absurd (omega (arith, lt))
set_before (z ∷ xs) zero x y lt = refl
set_before (z ∷ xs) (suc n) x y lt = ap (λ l. z ∷ l) (set_before xs n x y (omega (arith, lt)))

at_before : {X : Type 0} (xs : List X) (n : ℕ) (x d : X) → n < length xs → slice_index_or (xs ++ x ∷ []) n d ≡ slice_index_or xs n d
at_before [] n x d lt = absurd (omega (arith, lt))
at_before (z ∷ xs) zero x d lt = refl
at_before (z ∷ xs) (suc n) x d lt = at_before xs n x d (omega (arith, lt))

set_here : {X : Type 0} (xs : List X) (n : ℕ) (x d : X) → n < length xs → slice_index_or (slice_set xs n x) n d ≡ x
set_here [] n x d lt = absurd (omega (arith, lt))
set_here (z ∷ xs) zero x d lt = refl
set_here (z ∷ xs) (suc n) x d lt = set_here xs n x d (omega (arith, lt))

set_twice : {X : Type 0} (xs : List X) (n : ℕ) (x y : X) → slice_set (slice_set xs n x) n y ≡ slice_set xs n y
set_twice [] n x y = refl
set_twice (z ∷ xs) zero x y = refl
set_twice (z ∷ xs) (suc n) x y = ap (λ l. z ∷ l) (set_twice xs n x y)

set_same : {X : Type 0} (xs : List X) (n : ℕ) (d : X) → n < length xs → slice_set xs n (slice_index_or xs n d) ≡ xs
set_same [] n d lt = absurd (omega (arith, lt))
set_same (z ∷ xs) zero d lt = refl
set_same (z ∷ xs) (suc n) d lt = ap (λ l. z ∷ l) (set_same xs n d (omega (arith, lt)))

longer : {X : Type 0} (xs : List X) (x : X) (n : ℕ) → n < length xs → n < length (xs ++ x ∷ [])
longer xs x n lt = omega (arith, lt, length-append xs (x ∷ []))

-- ## Bunches behind an object

still_there : (ns : List ℕ) (s : State) (n : ℕ) → n < length s.own.heap → n < length (fold with_bunch s ns).own.heap
still_there [] s n lt = lt
still_there (m ∷ ns) s n lt = still_there ns (with_bunch s m) n (longer s.own.heap (new_bunch (m ∷ [])) n lt)

still_same : (ns : List ℕ) (s : State) (n : ℕ) → n < length s.own.heap → cell_at (fold with_bunch s ns) n ≡ cell_at s n
still_same [] s n lt = refl
still_same (m ∷ ns) s n lt = still_same ns (with_bunch s m) n (longer s.own.heap (new_bunch (m ∷ [])) n lt) ∙ at_before s.own.heap n (new_bunch (m ∷ [])) (plain_object []) lt

-- the object may be changed before they are made
changed_before : (ns : List ℕ) (s : State) (n : ℕ) (c : Cell) → n < length s.own.heap → with_cell (fold with_bunch s ns) n c ≡ fold with_bunch (with_cell s n c) ns
changed_before [] s n c lt = refl
changed_before (m ∷ ns) s n c lt =
    changed_before ns (with_bunch s m) n c (longer s.own.heap (new_bunch (m ∷ [])) n lt)
    ∙ ap (λ h. fold with_bunch (with_own s (record s.own { heap = h })) ns) (set_before s.own.heap n (new_bunch (m ∷ [])) c lt)

module _ (s : State) (ns : List ℕ) where
  abbrev n : ℕ
  n = length s.own.heap

  abbrev empty : Cell
  empty = new_array 0 []

  new_there : n < length (s.own.heap ++ empty ∷ [])
  new_there = omega (arith, length-append s.own.heap (empty ∷ []))

  pub empty_there : IsEmptyArray (fold with_bunch (with_new_cell s empty) ns) n
  empty_there = (
    still_there ns (with_new_cell s empty) n new_there,
    still_same ns (with_new_cell s empty) n new_there ∙ at_last s.own.heap empty (plain_object []),
  )

  pub exploded_is : filled n (bunches_from (n + 1) ns) (fold with_bunch (with_new_cell s empty) ns) ≡ exploded ns s
  exploded_is =
      let vs = bunches_from (n + 1) ns in
      changed_before ns (with_new_cell s empty) n (new_array (length vs) (numbered_pairs 0 vs)) new_there
      ∙ ap (λ h. fold with_bunch (with_own s (record s.own { heap = h })) ns) (set_last s.own.heap empty (new_array (length vs) (numbered_pairs 0 vs)))
      ∙ ap (λ k. fold with_bunch (with_new_cell s (new_array k (numbered_pairs 0 vs))) ns) (length-map-range_with_len Own (n + 1) (length ns))

-- ## The Array gets its elements

numbered_more : (i : ℕ) (xs ys : List Value) → numbered_pairs i (xs ++ ys) ≡ numbered_pairs i xs ++ numbered_pairs (i + length xs) ys
numbered_more i [] ys = let e : i ≡ i + 0 = omega arith in ap (λ k. numbered_pairs k ys) e
numbered_more i (x ∷ xs) ys =
    let e : (i + 1) + length xs ≡ i + suc (length xs) = omega arith in
    ap (λ l. (index_name i, x) ∷ l) (numbered_more (i + 1) xs ys ∙ ap (λ k. numbered_pairs (i + 1) xs ++ numbered_pairs k ys) e)

module _ (s : State) (n : ℕ) (there : IsEmptyArray s n) where
  pub filled_none : s ≡ filled n [] s
  filled_none = sym (ap (with_cell s n) (sym there.1) ∙ ap (λ h. with_own s (record s.own { heap = h })) (set_same s.own.heap n (plain_object []) there.0))

  module _ (xs : List Value) where
    array_here : cell_at (filled n xs s) n ≡ new_array (length xs) (numbered_pairs 0 xs)
    array_here = set_here s.own.heap n (new_array (length xs) (numbered_pairs 0 xs)) (plain_object []) there.0

    length_filled : array_length (kind_of (filled n xs s) (Own n)) ≡ Some (length xs)
    length_filled = ap (λ (c : Cell). array_length (Some c.kind)) array_here

    filled_last : (x : Value) → with_cell (filled n xs s) n (pushed (cell_at (filled n xs s) n) (length xs) (x ∷ [])) ≡ filled n (xs ++ x ∷ []) s
    filled_last x =
        let size : length xs + 1 ≡ length (xs ++ x ∷ []) = sym (length-append xs (x ∷ [])) in
        let zero_first : length xs ≡ 0 + length xs = omega arith in
        let pairs : numbered_pairs 0 xs ++ numbered_pairs (length xs) (x ∷ []) ≡ numbered_pairs 0 (xs ++ x ∷ []) = ap (λ k. numbered_pairs 0 xs ++ numbered_pairs k (x ∷ [])) zero_first ∙ sym (numbered_more 0 xs (x ∷ [])) in
        ap (λ c. with_cell (filled n xs s) n (pushed c (length xs) (x ∷ []))) array_here
        ∙ ap (λ h. with_own s (record s.own { heap = h })) (set_twice s.own.heap n (new_array (length xs) (numbered_pairs 0 xs)) (pushed (new_array (length xs) (numbered_pairs 0 xs)) (length xs) (x ∷ [])))
        ∙ (λ j. with_cell s n (new_array (size j) (pairs j)))

-- ## As the store has it

own_same : (a b : ℕ) → Own a ≡ Own b → a ≡ b
own_same a b e = cc

-- the number that an object of the widget is seen by
number_of : (w : ℕ) (cells : List PlainCell) (i n : ℕ) → seen w cells (value.Ref i) ≡ Own n → own_count w cells i ≡ n
number_of w cells i n e = by (visible_at w cells i) e
  where
    by : (b : Bool) → meant (if b then store.Own (own_count w cells i) else store.Other i) ≡ Own n → own_count w cells i ≡ n
    by true h = own_same (own_count w cells i) n h
    by false h = cc

-- the elements so far are in the Array
abbrev pub Fills : ℕ → Cells → ℕ → Cells → List StoreValue → Type 0
Fills w old array now xs =
    (fs : List Forest) (r : Rest) (n : ℕ) → seen w old.cells (value.Ref array) ≡ Own n → IsEmptyArray (image fs r w old) n → image fs r w now ≡ filled n (all_seen w old.cells xs) (image fs r w old)

length_taken : {X : Type 0} (xs : List X) (i : ℕ) → i < length xs → length (take i xs) ≡ i
length_taken xs zero lt = refl
length_taken [] (suc i) lt = absurd (omega (arith, lt))
length_taken (x ∷ xs) (suc i) lt = ap suc (length_taken xs i (omega (arith, lt)))

pub one_fine : (w : ℕ) (cells : List PlainCell) (vs : List StoreValue) (i : ℕ) (v : StoreValue) → i < length vs → v ≡ get_or vs i v → AreFine w cells vs → IsFine w cells v
one_fine w cells [] i v lt is h = absurd (omega (arith, lt))
one_fine w cells (x ∷ vs) zero v lt is h = subst (IsFine w cells) (sym is) h.0
one_fine w cells (x ∷ vs) (suc i) v lt is h = one_fine w cells vs i v (omega (arith, lt)) is h.1

pub fills_more : (w : ℕ) (old now next : Cells) (array : ℕ) → IsHeld w old.cells array → (vs : List StoreValue) (i : ℕ) (v : StoreValue) → i < length vs → v ≡ get_or vs i v → AreFine w old.cells vs → ((fs : List Forest) → Kept fs w old now) → Fills w old array now (take i vs)
    → ((fs : List Forest) (r : Rest) → PushedAt (own_count w now.cells array) i (seen w now.cells (value.Ref array)) (seen w now.cells v) (image fs r w now) (image fs r w next))
    → Fills w old array next (take (i + 1) vs)
fills_more w old now next array held vs i v lt is fine kept before push fs r n number there =
    let s = image fs r w old in
    let xs = all_seen w old.cells (take i vs) in
    let x = seen w old.cells v in
    let grows = (kept fs).grows in
    let this = seen_stays w old.cells now.cells grows (value.Ref array) held ∙ number in
    let same = seen_stays w old.cells now.cells grows v (one_fine w old.cells vs i v lt is fine) in
    let at = number_of w now.cells array n this in
    let so_far = before fs r n number there in
    let many : length xs ≡ i = length-map (take i vs) (seen w old.cells) ∙ length_taken vs i lt in
    push fs r ((λ j. array_length (kind_of (so_far j) (this j))) ∙ length_filled s n there xs ∙ ap Some many)
    ∙ (λ j. with_cell (so_far j) (at j) (pushed (cell_at (so_far j) (at j)) (sym many j) (same j ∷ [])))
    ∙ filled_last s n there xs x
    ∙ ap (λ l. filled n l s) (sym (ap (all_seen w old.cells) (take_more vs i v lt ∙ ap (λ u. take i vs ++ u ∷ []) (sym is)) ∙ map-append (seen w old.cells) (take i vs) (v ∷ [])))
