-- An Array of a widget gets elements, one after the other, or loses them.
use Rattle.std.proofs.Common.{◌≡◌, ℕ, zero, suc, pos, ◌+◌, ◌<◌, ◌≤◌, List, [], ◌∷◌, length, refl, sym, ap, ◌∙◌, Some, None, arith, true, if◌then◌else◌, take}
use Rattle.std.specs.Prelude.{◌-◌, codes, get_or, nat_le, slice_index_or}
use Rattle.std.proofs.lemmas.Bool.Decides.{nat_tests}
use Rattle.std.proofs.lemmas.List.{length-map}
use Rattle.js_tree.specs.Forest.{Forest}
use Rattle.store_cells.specs.declared.value.Value.{Value as StoreValue}
use Rattle.store_cells.specs.declared.value.Value.TheVariants as value
use Rattle.store_cells.specs.declared.value.Number.TheVariants as whole
use Rattle.store_cells.specs.Cells.{Cells, own_count}
use Rattle.widget_meaning.specs.Limits.{max_length}
use Rattle.widget_meaning.specs.Values.{Value, Num, Own, E7}
use Rattle.widget_meaning.specs.OwnState as state
use Rattle.widget_meaning.specs.OwnState.{Cell, Kind, State, array_length, cell_at, kind_of, new_array, plain_object, with_cell, with_new_cell}
use Rattle.widget_meaning.specs.Plan.{Halt, Plan, Ret}
use Rattle.widget_meaning.specs.Values as meaning
use Rattle.widget_meaning.specs.Costs.{cost, give, pay, slots_cost, sum, throw, with_counts}
use Rattle.widget_meaning.specs.Properties.{cut_to, put, put_own}
use Rattle.widget_meaning.specs.NativeForms.{element, make_array, numbered_pairs}
use Rattle.widget_meaning.specs.ListChanges.{change, new_indexes, pushed, with_elements}
use Rattle.js_image.specs.Held.{AreFine, IsFine, Kept}
use Rattle.js_image.specs.Image.{Rest, all_seen, image, seen}
use Rattle.js_image.specs.declared.outcome.StopCause.{StopCause}
use Rattle.js_image.specs.Plans.{PushedAt, meant_cause}
use Rattle.js_image.proofs.Grown.{fine_stays, seen_stays}
use Rattle.js_image.proofs.Units.{kept_then}
use Rattle.js_values.specs.declared.outcome.NativeOut.TheVariants as native
use Rattle.native_common.specs.Refines.{Ends}
use Rattle.list_methods.specs.declared.array.OwnArray.{OwnArray}
use Rattle.list_methods.specs.Arrays.{IsArray, number}
use Rattle.list_methods.specs.Parts.{popped, put_last}
use Rattle.list_methods.proofs.Cells.{array_there, cell_put, emptied_pushed, pushed_more, pushed_none, put_twice}
use Rattle.list_methods.proofs.Lists.{all_seen_stay, length_taken, one_fine, seen_more}
use Rattle.list_methods.proofs.Arrays.{array_after, number_stays, own_stays}
use Rattle.list_methods.proofs.Costs.{older, paid_heap, paid_state, same_state}
use Rattle.list_methods.proofs.Meeting.{stop_ends, value_ends}

-- the Array with elements behind it
abbrev pub Behind : ℕ → Cells → OwnArray → Cells → List StoreValue → Type 0
Behind w old a now xs =
    (fs : List Forest) (r : Rest) → image fs r w now ≡ with_cell (image fs r w old) (number w old a) (pushed (cell_at (image fs r w old) (number w old a)) a.len (all_seen w old.cells xs))

-- the Array without elements from a length on
abbrev pub Cut : ℕ → Cells → OwnArray → Cells → ℕ → Type 0
Cut w old a mid len =
    (fs : List Forest) (r : Rest) → image fs r w mid ≡ with_cell (image fs r w old) (number w old a) (cut_to (cell_at (image fs r w old) (number w old a)) len)

module _ (w : ℕ) (old : Cells) (a : OwnArray) (h : IsArray w old a) where
  abbrev n : ℕ
  n = number w old a

  pub behind_none : Behind w old a old []
  behind_none fs r = sym (pushed_none (image fs r w old) n a.len (h.len fs r))

  there : (fs : List Forest) (r : Rest) → n < length (image fs r w old).own.heap
  there fs r = array_there (image fs r w old) n a.len (h.len fs r)

  -- the length after that
  module _ (now : Cells) (xs : List StoreValue) (kept : (fs : List Forest) → Kept fs w old now) (behind : Behind w old a now xs) (fs : List Forest) (r : Rest) where
    length_behind : array_length (kind_of (image fs r w now) (seen w now.cells (value.Ref a.cell))) ≡ Some (a.len + length xs)
    length_behind =
        let s = image fs r w old in
        let c = pushed (cell_at s n) a.len (all_seen w old.cells xs) in
        (λ j. array_length (kind_of (behind fs r j) (own_stays w old now a h (kept fs).grows j)))
        ∙ ap (λ (x : Cell). array_length (Some x.kind)) (cell_put s n c (there fs r))
        ∙ ap (λ m. Some (a.len + m)) (length-map xs (seen w old.cells))

  pub one_behind : (now next : Cells) (vs : List StoreValue) (i : ℕ) (v : StoreValue) → i < length vs → v ≡ get_or vs i v → AreFine w old.cells vs
      → ((fs : List Forest) → Kept fs w old now) → Behind w old a now (take i vs)
      → ((fs : List Forest) (r : Rest) → PushedAt (own_count w now.cells a.cell) (a.len + i) (seen w now.cells (value.Ref a.cell)) (seen w now.cells v) (image fs r w now) (image fs r w next))
      → Behind w old a next (take (i + 1) vs)
  one_behind now next vs i v lt is fine kept behind pushes fs r =
      let s = image fs r w old in
      let c = cell_at s n in
      let xs = all_seen w old.cells (take i vs) in
      let d = pushed c a.len xs in
      let x = seen w old.cells v in
      let many : length (take i vs) ≡ i = length_taken vs i (omega (arith, lt)) in
      let size : length xs ≡ i = length-map (take i vs) (seen w old.cells) ∙ many in
      let same : seen w now.cells v ≡ x = seen_stays w old.cells now.cells (kept fs).grows v (one_fine w old.cells vs i v lt is fine) in
      let at = number_stays w old now a h (kept fs).grows in
      pushes fs r (length_behind now (take i vs) kept behind fs r ∙ ap (λ m. Some (a.len + m)) many)
      ∙ (λ j. with_cell (behind fs r j) (at j) (pushed (cell_at (behind fs r j) (at j)) (a.len + i) (same j ∷ [])))
      ∙ ap (λ (y : Cell). with_cell (with_cell s n d) n (pushed y (a.len + i) (x ∷ []))) (cell_put s n d (there fs r))
      ∙ put_twice s n d (pushed d (a.len + i) (x ∷ []))
      ∙ ap (with_cell s n) (ap (λ m. pushed d (a.len + m) (x ∷ [])) (sym size) ∙ pushed_more c a.len xs (x ∷ []) ∙ ap (pushed c a.len) (sym (seen_more w old.cells vs i v lt is)))

  -- an Array that lost its elements, and got others
  pub cut_array : (mid : Cells) (len : ℕ) → ((fs : List Forest) → Kept fs w old mid) → Cut w old a mid len → IsArray w mid (record { cell = a.cell; len = len })
  cut_array mid len kept cut = array_after w old mid a h (kept []).grows len (λ fs r.
      ap (λ (t : State). array_length (kind_of t (Own n))) (cut fs r) ∙ ap (λ (x : Cell). array_length (Some x.kind)) (cell_put (image fs r w old) n (cut_to (cell_at (image fs r w old) n) len) (there fs r)))

  pub filled : (mid new : Cells) (vs : List StoreValue) → AreFine w old.cells vs → ((fs : List Forest) → Kept fs w old mid) → Cut w old a mid 0
      → ((fs : List Forest) (r : Rest) → image fs r w new ≡ with_cell (image fs r w mid) (own_count w mid.cells a.cell) (pushed (cell_at (image fs r w mid) (own_count w mid.cells a.cell)) 0 (all_seen w mid.cells vs)))
      → (fs : List Forest) (r : Rest) → image fs r w new ≡ with_cell (image fs r w old) n (with_elements (cell_at (image fs r w old) n) (all_seen w old.cells vs))
  filled mid new vs fine kept cut done fs r =
      let s = image fs r w old in
      let c = cell_at s n in
      let d = cut_to c 0 in
      let at = number_stays w old mid a h (kept fs).grows in
      let same = all_seen_stay w old.cells mid.cells (kept fs).grows vs fine in
      done fs r
      ∙ (λ j. with_cell (cut fs r j) (at j) (pushed (cell_at (cut fs r j) (at j)) 0 (same j)))
      ∙ ap (λ (y : Cell). with_cell (with_cell s n d) n (pushed y 0 (all_seen w old.cells vs))) (cell_put s n d (there fs r))
      ∙ put_twice s n d (pushed d 0 (all_seen w old.cells vs))
      ∙ ap (with_cell s n) (emptied_pushed c (all_seen w old.cells vs))

  -- after a new Array this one is as it was
  pub made_array : (mid : Cells) (ts : List Value) (v : Value) → ((fs : List Forest) (r : Rest) (k : Value → State → Plan) → make_array ts 0 (image fs r w old) k ≡ k v (image fs r w mid)) → ((fs : List Forest) → Kept fs w old mid) → IsArray w mid a
  made_array mid ts v made kept = array_after w old mid a h (kept []).grows a.len (λ fs r.
      let s = image fs r w old in
      let paid = sum s.own.counts (cost 0 1 (length ts) 0) in
      let array = new_array (length ts) (numbered_pairs 0 ts) in
      ap (λ (t : State). array_length (kind_of t (Own n))) (paid_state paid s (with_new_cell (with_counts s paid) array) (image fs r w mid) (made fs r (λ u t. Ret meaning.Normal t)))
      ∙ ap (λ (x : Cell). array_length (Some x.kind)) (older s.own.heap n array (plain_object []) (there fs r))
      ∙ h.len fs r)

  -- after a cost the Array is as it was
  module _ (mid : Cells) (kept : (fs : List Forest) → Kept fs w old mid) (cost : ℕ) (paid : (fs : List Forest) (r : Rest) (k : State → Plan) → pay (slots_cost cost) (image fs r w old) k ≡ k (image fs r w mid)) where
    same_heap : (fs : List Forest) (r : Rest) → (image fs r w mid).own.heap ≡ (image fs r w old).own.heap
    same_heap fs r = paid_heap (slots_cost cost) (image fs r w old) (image fs r w mid) (paid fs r)

    pub paid_array : IsArray w mid a
    paid_array = array_after w old mid a h (kept []).grows a.len (λ fs r. ap (λ hp. array_length (Some (slice_index_or hp n (plain_object [])).kind)) (same_heap fs r) ∙ h.len fs r)

    -- `change`
    pub change_ends : (new : Cells) (vs : List StoreValue) (v : StoreValue) → AreFine w old.cells vs → IsFine w old.cells v
        → ((fs : List Forest) (r : Rest) → cost ≡ new_indexes (cell_at (image fs r w old) n) (length vs))
        → ((fs : List Forest) → Kept fs w mid new)
        → ((fs : List Forest) (r : Rest) → image fs r w new ≡ with_cell (image fs r w mid) (number w mid a) (with_elements (cell_at (image fs r w mid) (number w mid a)) (all_seen w mid.cells vs)))
        → Ends w old new (λ d s. change n (all_seen w old.cells vs) (seen w old.cells v) s) (native.Value v)
    change_ends new vs v fine one is more done = value_ends w old new (λ d s. change n (all_seen w old.cells vs) (seen w old.cells v) s) v
        (λ fs r d.
        let s = image fs r w old in
        let xs = all_seen w old.cells vs in
        let e : new_indexes (cell_at s n) (length xs) ≡ cost = ap (new_indexes (cell_at s n)) (length-map vs (seen w old.cells)) ∙ sym (is fs r) in
        let at = number_stays w old mid a h (kept fs).grows in
        let same = all_seen_stay w old.cells mid.cells (kept fs).grows vs fine in
        let all = kept_then fs w old mid new (kept fs) (more fs) in
        ap (λ m. pay (slots_cost m) s (λ t. give (seen w old.cells v) (with_cell t n (with_elements (cell_at t n) xs)))) e
        ∙ paid fs r (λ t. give (seen w old.cells v) (with_cell t n (with_elements (cell_at t n) xs)))
        ∙ (λ j. give (sym (seen_stays w old.cells new.cells all.grows v one) j) (with_cell (image fs r w mid) (sym at j) (with_elements (cell_at (image fs r w mid) (sym at j)) (sym same j))))
        ∙ ap (give (seen w new.cells v)) (sym (done fs r)))
        (fine_stays w old.cells new.cells (kept_then [] w old mid new (kept []) (more [])).grows v one)
        (λ fs. kept_then fs w old mid new (kept fs) (more fs))

    -- `push`
    pub push_ends : (new : Cells) (vs : List StoreValue) (count : ℕ) → AreFine w old.cells vs → cost ≡ length vs → count ≡ a.len + length vs
        → ((fs : List Forest) → Kept fs w mid new)
        → ((fs : List Forest) (r : Rest) → image fs r w new ≡ with_cell (image fs r w mid) (number w mid a) (pushed (cell_at (image fs r w mid) (number w mid a)) a.len (all_seen w mid.cells vs)))
        → Ends w old new (λ d s. put_last n a.len (all_seen w old.cells vs) s) (native.Value (value.Num (whole.Whole (pos count))))
    push_ends new vs count fine is sum more done = value_ends w old new (λ d s. put_last n a.len (all_seen w old.cells vs) s) (value.Num (whole.Whole (pos count)))
        (λ fs r d.
        let s = image fs r w old in
        let xs = all_seen w old.cells vs in
        let size = length-map vs (seen w old.cells) in
        let at = number_stays w old mid a h (kept fs).grows in
        let same = all_seen_stay w old.cells mid.cells (kept fs).grows vs fine in
        ap (λ m. pay (slots_cost m) s (λ t. give (Num (pos (a.len + length xs))) (with_cell t n (pushed (cell_at t n) a.len xs)))) (size ∙ sym is)
        ∙ paid fs r (λ t. give (Num (pos (a.len + length xs))) (with_cell t n (pushed (cell_at t n) a.len xs)))
        ∙ (λ j. give (Num (pos ((ap (λ m. a.len + m) size ∙ sym sum) j))) (with_cell (image fs r w mid) (sym at j) (pushed (cell_at (image fs r w mid) (sym at j)) a.len (sym same j))))
        ∙ ap (give (Num (pos count))) (sym (done fs r)))
        tt
        (λ fs. kept_then fs w old mid new (kept fs) (more fs))

-- a cost that stops
module _ (w : ℕ) (old new : Cells) (a : OwnArray) (cost : ℕ) (c : StopCause) (stops : (fs : List Forest) (r : Rest) (k : State → Plan) → pay (slots_cost cost) (image fs r w old) k ≡ Halt (meant_cause c) (image fs r w new)) (kept : (fs : List Forest) → Kept fs w old new) where
  pub change_stops : (vs : List StoreValue) (v : StoreValue) → ((fs : List Forest) (r : Rest) → cost ≡ new_indexes (cell_at (image fs r w old) (number w old a)) (length vs))
      → Ends w old new (λ d s. change (number w old a) (all_seen w old.cells vs) (seen w old.cells v) s) (native.Stop c)
  change_stops vs v is = stop_ends w old new (λ d s. change (number w old a) (all_seen w old.cells vs) (seen w old.cells v) s) c
      (λ fs r d.
      let s = image fs r w old in
      let n = number w old a in
      let xs = all_seen w old.cells vs in
      let e : new_indexes (cell_at s n) (length xs) ≡ cost = ap (new_indexes (cell_at s n)) (length-map vs (seen w old.cells)) ∙ sym (is fs r) in
      ap (λ m. pay (slots_cost m) s (λ t. give (seen w old.cells v) (with_cell t n (with_elements (cell_at t n) xs)))) e
      ∙ stops fs r (λ t. give (seen w old.cells v) (with_cell t n (with_elements (cell_at t n) xs))))
      kept

  pub push_stops : (vs : List StoreValue) → cost ≡ length vs → Ends w old new (λ d s. put_last (number w old a) a.len (all_seen w old.cells vs) s) (native.Stop c)
  push_stops vs is = stop_ends w old new (λ d s. put_last (number w old a) a.len (all_seen w old.cells vs) s) c
      (λ fs r d.
      let s = image fs r w old in
      let n = number w old a in
      let xs = all_seen w old.cells vs in
      ap (λ m. pay (slots_cost m) s (λ t. give (Num (pos (a.len + length xs))) (with_cell t n (pushed (cell_at t n) a.len xs)))) (length-map vs (seen w old.cells) ∙ sym is)
      ∙ stops fs r (λ t. give (Num (pos (a.len + length xs))) (with_cell t n (pushed (cell_at t n) a.len xs))))
      kept

-- a write of a length
module _ (w : ℕ) (old new : Cells) (a : OwnArray) (h : IsArray w old a) (len : ℕ) (few : len ≤ 4294967295) (fs : List Forest) (r : Rest) where
  abbrev st : State
  st = image fs r w old

  abbrev m : ℕ
  m = number w old a

  none_some : {A : Type 0} {a : A} → None ≡ Some a → ⊥
  none_some e = cc

  some_same : {A : Type 0} (a b : A) → Some a ≡ Some b → a ≡ b
  some_same a b e = cc

  array_kind : (k : Kind) → array_length (Some k) ≡ Some a.len → k ≡ state.Array a.len
  array_kind (state.Array l) e = ap state.Array (some_same l a.len e)
  array_kind state.Object e = absurd (none_some e)
  array_kind (state.Function f o) e = absurd (none_some e)
  array_kind (state.Bunch ns) e = absurd (none_some e)

  within : nat_le len max_length ≡ true
  within = grind (arith, nat_tests, few)

  -- what is done then
  abbrev ending : State → Plan
  ending t = Ret meaning.Normal t

  abbrev cut : State
  cut = with_cell st m (cut_to (cell_at st m) len)

  put_is : put (seen w old.cells (value.Ref a.cell)) (codes "length") (Num (pos len)) st ending ≡ ending cut
  put_is =
      ap (λ v. put v (codes "length") (Num (pos len)) st ending) h.own
      ∙ ap (λ k. put_own k (cell_at st m) m (codes "length") (Num (pos len)) st ending) (array_kind (cell_at st m).kind (h.len fs r))
      ∙ ap (λ b. if b then ending cut else throw E7 st) within

  pub shortened : put (seen w old.cells (value.Ref a.cell)) (codes "length") (Num (pos len)) st ending ≡ ending (image fs r w new) → image fs r w new ≡ cut
  shortened e = same_state (image fs r w new) cut (sym e ∙ put_is)

-- `pop`, where there is an element
pub popped_is : (n len : ℕ) (s : State) → (len ≡ 0 → ⊥) → popped n len s ≡ give (element (cell_at s n).pairs (len - 1)) (with_cell s n (cut_to (cell_at s n) (len - 1)))
popped_is n zero s h = absurd (h refl)
popped_is n (suc len) s h = let e : len ≡ suc len - 1 = omega arith in ap (λ k. give (element (cell_at s n).pairs k) (with_cell s n (cut_to (cell_at s n) k))) e
