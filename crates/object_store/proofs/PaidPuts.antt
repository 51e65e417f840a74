-- What `put_paid` answers, and what widgets see of it.
use Rattle.std.proofs.Common.{◌≡◌, ℕ, List, refl, sym, ap, ◌∙◌, subst, Option, Some, None, Bool, true, false, length, arith, is_some, if◌then◌else◌, slice_get}
use Rattle.std.specs.Prelude.{Result, Ok, Err, OnOk, OnErr}
use Rattle.std.specs.Option.{option_map, option_map_or}
use Rattle.std.proofs.lemmas.Option.{slice_get-map}
use Rattle.keyed_names.proofs.Interning.{none_test, same_test}
use Rattle.store_cells.specs.declared.value.Value.{Value}
use Rattle.store_cells.specs.declared.cell.Write.{Write}
use Rattle.store_cells.specs.declared.counts.Counts.{Counts}
use Rattle.store_cells.specs.declared.counts.StoreFault.TheVariants as fault
use Rattle.store_cells.specs.Lists.{changed}
use Rattle.store_cells.specs.Cells.{Cells, PlainCell, has_own, is_bunch, is_visible, writer_in}
use Rattle.store_cells.specs.Arrays.{is_bad_length, stored}
use Rattle.store_cells.specs.Bunches.{IsBunch}
use Rattle.store_cells.specs.Numbered.{IsNumberOf, NumberedCell, by_plan, cells_of, heads, numbered_has, own_head, plain, plan_of}
use Rattle.store_cells.specs.Shape.{AreClosed, AreRaws, IsBase, IsLinked, IsRefWithin, IsShape, Wrote}
use Rattle.store_cells.specs.declared.cell.Head.{Head}
use Rattle.std.specs.List.{count_by}
use Rattle.object_store.specs.Calls.{IsPutPaid, new_refusal, paid_done, paid_refusal, paid_refusal_of}
use Rattle.object_store.specs.Grows.{Grows}
use Rattle.object_store.specs.Owned.{Changed, is_of, is_of_at, own_cell, own_put, own_value, owned, visible_at}
use Rattle.store_cells.proofs.Lists.{changed_alike, changed_past, some_same}
use Rattle.store_cells.proofs.Look.{has_same, known_at, known_cells, look_none}
use Rattle.store_cells.proofs.Plans.{length_alike, no_plan, plan_done, some_plan}
use Rattle.object_store.proofs.Growth.{grows_back, grows_changed, grows_to}
use Rattle.object_store.proofs.Others.{others_written, stored_form, stored_owner}
use Rattle.object_store.proofs.Own.{cell_stored, numbers_same, open_no_bunch, own_changed, visible_form}
use Rattle.object_store.proofs.Paid.{none_paid}
use Rattle.object_store.proofs.Puts.{seen}

-- the shape after a write that pays nothing
pub shape_unpaid : (names new : List (List ℕ)) (cs after : List NumberedCell) (raws : List (ℕ × ℕ)) (kept : List Counts) → IsShape names cs raws kept → IsBase new after → AreClosed (cells_of new after) → heads after ≡ heads cs → IsShape new after raws kept
shape_unpaid names new cs after raws kept shape base closed same = record {
  base = base;
  closed = closed;
  nodes = subst (λ (hs : List Head). AreRaws hs raws) (sym same) shape.nodes;
  counted = shape.counted;
  within = shape.within;
  exact = λ w lt. shape.exact w lt ∙ ap (count_by (own_head w)) (sym same);
}

module _ (s : Cells) (names : List (List ℕ)) (cs : List NumberedCell) {raws : List (ℕ × ℕ)} (kept : List Counts) (view : (let c : Cells = record { cells = cells_of names cs; kept = kept } in c ≡ s)) (shape : IsShape names cs raws kept) (i : ℕ) (c : NumberedCell) (at : slice_get cs i ≡ Some c) (name : List ℕ) (v : Value) where
  refusal_is : paid_refusal s i name v ≡ paid_refusal_of name v (plain names c)
  refusal_is = ap (λ o. option_map_or (paid_refusal_of name v) o None) (seen s names cs kept view shape i c at)

  pub paid_closed : writer_in c.head.owner c.head.form ≡ None → paid_refusal s i name v ≡ Some fault.Closed
  paid_closed e = refusal_is ∙ ap (λ (o : Option ℕ). option_map_or (λ w. new_refusal name v (plain names c)) o (Some fault.Closed)) e

  has_number : (number : Option ℕ) → IsNumberOf names name number → option_map_or (λ n. numbered_has n c) number false ≡ has_own name (plain names c)
  has_number None h = sym (ap is_some (look_none names name (none_test names name h) c.entries (known_at (length names) cs i c (known_cells names (length cs) cs shape.base.fine) at)))
  has_number (Some n) h = has_same names name n (same_test names name n shape.base.table h.0) c (known_at (length names) cs i c (known_cells names (length cs) cs shape.base.fine) at)

  module _ (w : ℕ) (writer : writer_in c.head.owner c.head.form ≡ Some w) where
    open_refusal : paid_refusal s i name v ≡ new_refusal name v (plain names c)
    open_refusal = refusal_is ∙ ap (λ (o : Option ℕ). option_map_or (λ w. new_refusal name v (plain names c)) o (Some fault.Closed)) writer

    module _ (number : Option ℕ) (found : IsNumberOf names name number) (slots : ℕ) (cost : slots ≡ (if option_map_or (λ n. numbered_has n c) number false then 0 else 1)) where
      has_name : (b : Bool) → slots ≡ (if b then 0 else 1) → slots ≡ 0 → b ≡ true
      has_name true e h = refl
      has_name false e h = absurd (omega (arith, e, h))

      has_no_name : (b : Bool) → slots ≡ (if b then 0 else 1) → (slots ≡ 0 → ⊥) → b ≡ false
      has_no_name true e h = absurd (h e)
      has_no_name false e h = refl

      pub paid_there : slots ≡ 0 → paid_refusal s i name v ≡ Some fault.Closed
      paid_there h = open_refusal ∙ ap (λ b. if b then Some fault.Closed else (if is_bad_length name v (plain names c) then Some fault.BadLength else None)) (sym (has_number number found) ∙ has_name (option_map_or (λ n. numbered_has n c) number false) cost h)

      module _ (new_name : slots ≡ 0 → ⊥) where
        absent_refusal : paid_refusal s i name v ≡ (if is_bad_length name v (plain names c) then Some fault.BadLength else None)
        absent_refusal = open_refusal ∙ ap (λ b. if b then Some fault.Closed else (if is_bad_length name v (plain names c) then Some fault.BadLength else None)) (sym (has_number number found) ∙ has_no_name (option_map_or (λ n. numbered_has n c) number false) cost new_name)

        pub paid_bad : plan_of name v c ≡ None → paid_refusal s i name v ≡ Some fault.BadLength
        paid_bad e = absent_refusal ∙ ap (λ b. if b then Some fault.BadLength else None) (no_plan name v c e names)

        pub paid_is : (p : Write) → plan_of name v c ≡ Some p → (new : List (List ℕ)) (after : List NumberedCell) → Wrote names cs new after i (by_plan p name v) → (let d : Cells = record { cells = cells_of new after; kept = kept } in IsPutPaid s d i name v)
        paid_is p plan new after wrote =
            let same : changed (cells_of names cs) i (by_plan p name v) ≡ changed (cells_of names cs) i (stored name v) =
            changed_alike (cells_of names cs) i (by_plan p name v) (stored name v) (λ x g.
            let is : x ≡ plain names c = some_same x (plain names c) (sym g ∙ slice_get-map (plain names) cs i ∙ ap (option_map (plain names)) at) in
            ap (by_plan p name v) is ∙ plan_done name v c names (length_alike names shape.base.table shape.base.words c.entries (known_at (length names) cs i c (known_cells names (length cs) cs shape.base.fine) at)) p plan ∙ ap (stored name v) (sym is)) in
            record {
              allowed = absent_refusal ∙ ap (λ b. if b then Some fault.BadLength else None) (some_plan name v c p plan names);
              done = (λ j. record { cells = (wrote.done ∙ same) j; kept = kept }) ∙ ap (λ (t : Cells). paid_done t i name v) view;
            }

-- what widgets see
module _ (s : Cells) (links : (i : ℕ) (c : PlainCell) → slice_get s.cells i ≡ Some c → IsLinked s.cells i c) (bunches_each : (i : ℕ) (c : PlainCell) → slice_get s.cells i ≡ Some c → is_bunch c.form ≡ true → IsBunch s.cells c) (i : ℕ) (name : List ℕ) (u : Value) where
  none_closed : Some fault.Closed ≡ None → ⊥
  none_closed e = cc

  paid_writer : (c : PlainCell) → slice_get s.cells i ≡ Some c → paid_refusal s i name u ≡ None → (x : ℕ) × (writer_in c.owner c.form ≡ Some x)
  paid_writer c at none = by (writer_in c.owner c.form) refl
    where
      by : (o : Option ℕ) → writer_in c.owner c.form ≡ o → (x : ℕ) × (writer_in c.owner c.form ≡ Some x)
      by None e = absurd (none_closed (sym (ap (λ (p : Option PlainCell). option_map_or (paid_refusal_of name u) p None) at ∙ ap (λ (p : Option ℕ). option_map_or (λ w. new_refusal name u c) p (Some fault.Closed)) e) ∙ none))
      by (Some x) e = (x, e)

  -- the widget that has the cell
  module _ (ref : IsRefWithin (length s.cells) u) where
    paid_own : paid_refusal s i name u ≡ None → (w : ℕ) → visible_at w s.cells i ≡ true → Changed w s (paid_done s i name u) i 0 (own_put name (own_value w s.cells u))
    paid_own none w v = by (slice_get s.cells i) refl
      where
        visible : (c : PlainCell) → slice_get s.cells i ≡ Some c → is_visible w c ≡ true
        visible c at = sym (ap (λ (o : Option PlainCell). option_map_or (is_visible w) o false) at) ∙ v

        false_true : false ≡ true → ⊥
        false_true e = cc

        by : (o : Option PlainCell) → slice_get s.cells i ≡ o → Changed w s (paid_done s i name u) i 0 (own_put name (own_value w s.cells u))
        by None at = absurd (false_true (sym (ap (λ (o : Option PlainCell). option_map_or (is_visible w) o false) at) ∙ v))
        by (Some c) at =
            let k = paid_writer c at none in
            let e = visible_form w c (visible c at) in
            let stored_is = cell_stored w (changed s.cells i (stored name u)) name u c.owner c.up c.pairs c.form e (open_no_bunch c.owner c.form k.0 k.1) in
            let same = numbers_same s links bunches_each i k.0 c at k.1 (stored name u) (stored_owner name u) (stored_form name u) w (visible c at) s.kept (own_put name (own_value w s.cells u)) u ref in
            own_changed s links bunches_each i k.0 c at k.1 (stored name u) (stored_owner name u) (stored_form name u) w (visible c at) s.kept (own_put name (own_value w s.cells u)) 0 (none_paid (slice_get s.kept w)) (stored_is ∙ ap (λ y. own_put name y (own_cell w (changed s.cells i (stored name u)) c)) same)

    pub paid_own_seen : {E : Type 0} (r : Result (Unit {0}) E) (t : Cells) → OnOk r (IsPutPaid s t i name u) → OnOk r ((w : ℕ) → visible_at w s.cells i ≡ true → Changed w s t i 0 (own_put name (own_value w s.cells u)))
    paid_own_seen (Ok y) t ok = λ w v. subst (λ (d : Cells). Changed w s d i 0 (own_put name (own_value w s.cells u))) (sym ok.done) (paid_own ok.allowed w v)
    paid_own_seen (Err y) t ok = tt

  -- another widget
  module _ (v : ℕ) (other : is_of_at v s.cells i ≡ false) where
    paid_others : paid_refusal s i name u ≡ None → (o : Option PlainCell) → slice_get s.cells i ≡ o → owned v (paid_done s i name u) ≡ owned v s
    paid_others none None at = ap (owned v) (λ j. record { cells = changed_past s.cells i (stored name u) at j; kept = s.kept })
    paid_others none (Some c) at =
        let k = paid_writer c at none in
        others_written s links bunches_each i k.0 c at k.1 (stored name u) (stored_owner name u) (stored_form name u) s.kept v (sym (ap (λ (o : Option PlainCell). option_map_or (λ (d : PlainCell). is_of v d.owner) o false) at) ∙ other) refl

    pub paid_seen : {E : Type 0} (r : Result (Unit {0}) E) (t : Cells) → OnOk r (IsPutPaid s t i name u) → OnErr r (t ≡ s) → owned v t ≡ owned v s
    paid_seen (Ok x) t ok err = ap (owned v) ok.done ∙ paid_others ok.allowed (slice_get s.cells i) refl
    paid_seen (Err x) t ok err = ap (owned v) err

-- its numbers
pub paid_grows : {E : Type 0} (s : Cells) (w i : ℕ) (name : List ℕ) (u : Value) (r : Result (Unit {0}) E) (t : Cells) → OnOk r (IsPutPaid s t i name u) → OnErr r (t ≡ s) → Grows w s.cells t.cells
paid_grows s w i name u (Ok x) t ok err = grows_to w s t (paid_done s i name u) ok.done (grows_changed w (stored name u) (stored_owner name u) (stored_form name u) s.cells i)
paid_grows s w i name u (Err x) t ok err = grows_back w s t err
