-- What `remove` and `var_set` answer.
use Rattle.std.proofs.Common.{◌≡◌, ℕ, zero, suc, List, [], ◌∷◌, length, refl, sym, ap, ◌∙◌, subst, Option, Some, None, true, false, if◌then◌else◌, not, is_some, slice_get}
use Rattle.std.specs.Prelude.{◌&&◌}
use Rattle.std.specs.Option.{option_map_or}
use Rattle.std.specs.List.{list_any, count_by}
use Rattle.std.specs.Map.{remove_entry}
use Rattle.std.specs.Str.{bytes_eq}
use Rattle.keyed_names.proofs.Interning.{same_test, none_test}
use Rattle.store_cells.specs.declared.value.Value.{Value}
use Rattle.store_cells.specs.declared.cell.Head.{Head}
use Rattle.store_cells.specs.declared.kind.Form.{Form}
use Rattle.store_cells.specs.declared.counts.Counts.{Counts}
use Rattle.store_cells.specs.declared.counts.StoreFault.TheVariants as fault
use Rattle.store_cells.specs.Lists.{changed}
use Rattle.store_cells.specs.Cells.{PlainCell, Cells, is_array, is_bunch, is_scope, holder, writer_in, widget_of, is_scope_at}
use Rattle.store_cells.specs.Arrays.{length_name, written}
use Rattle.store_cells.specs.Numbered.{NumberedCell, plain, named, cells_of, heads, own_head, numbered_has, numbered_has_at, numbered_holder}
use Rattle.store_cells.specs.Shape.{AreClosed, AreKnown, IsBase, IsShape, AreRaws, Wrote, scope_at}
use Rattle.store_cells.specs.Arrays.{without, is_length_of}
use Rattle.object_store.specs.Calls.{IsRemoved, is_closed, remove_refusal, removed, remove_done, var_done}
use Rattle.store_cells.proofs.Lists.{some_same, changed_alike}
use Rattle.store_cells.proofs.Look.{known_cells, known_at, remove_never, holder_same, holder_never, climb_has}
use Rattle.store_cells.proofs.Heads.{holder_scope, scope_form, scope_no_bunch, scope_same, head_at}
use Rattle.store_cells.proofs.Closed.{closed_wrote}
use Rattle.object_store.proofs.Puts.{seen}

-- a shape after a call that pays nothing
pub shape_same : (names : List (List ℕ)) (cs after : List NumberedCell) (raws : List (ℕ × ℕ)) (kept : List Counts) → IsShape names cs raws kept → IsBase names after → AreClosed (cells_of names after) → heads after ≡ heads cs → IsShape names after raws kept
shape_same names cs after raws kept shape base closed same = record {
  base = base;
  closed = closed;
  nodes = subst (λ (hs : List Head). AreRaws hs raws) (sym same) shape.nodes;
  counted = shape.counted;
  within = shape.within;
  exact = λ w lt. shape.exact w lt ∙ ap (count_by (own_head w)) (sym same);
}

-- what `remove` answers
module _ (s : Cells) (names : List (List ℕ)) (cs : List NumberedCell) {raws : List (ℕ × ℕ)} (kept : List Counts) (view : (let c : Cells = record { cells = cells_of names cs; kept = kept } in c ≡ s)) (shape : IsShape names cs raws kept) (i : ℕ) (c : NumberedCell) (at : slice_get cs i ≡ Some c) (w : ℕ) (writer : writer_in c.head.owner c.head.form ≡ Some w) (name : List ℕ) where
  is_open : remove_refusal s i ≡ None
  is_open = ap (λ (o : Option PlainCell). option_map_or (λ d. if is_closed d then Some fault.Closed else None) o None) (seen s names cs kept view shape i c at) ∙ ap (λ (o : Option ℕ). if not (is_some o) then Some fault.Closed else None) writer

  removed_is : removed s i name ≡ not (is_length_of name (plain names c))
  removed_is = ap (λ (o : Option PlainCell). option_map_or (λ d. not (is_length_of name d)) o true) (seen s names cs kept view shape i c at)

  -- nothing to take out
  unchanged : without name (plain names c) ≡ plain names c → s ≡ remove_done s i name
  unchanged same =
      let is : changed s.cells i (without name) ≡ s.cells = changed_alike s.cells i (without name) (λ d. d) (λ d g. let e : d ≡ plain names c = some_same d (plain names c) (sym g ∙ seen s names cs kept view shape i c at) in ap (without name) e ∙ same ∙ sym e) ∙ changed_id s.cells i in
      λ j. record { cells = sym is j; kept = s.kept }
    where
      changed_id : {X : Type 0} (xs : List X) (i : ℕ) → changed xs i (λ x. x) ≡ xs
      changed_id [] i = refl
      changed_id (x ∷ xs) zero = refl
      changed_id (x ∷ xs) (suc i) = ap (λ l. x ∷ l) (changed_id xs i)

  pub remove_length : true ≡ (is_array c.head.form && bytes_eq name length_name) → IsRemoved s s i name false
  remove_length is = record {
    allowed = is_open;
    answered = ap not is ∙ sym removed_is;
    done = unchanged (ap (λ b. let d : PlainCell = if b then plain names c else record { owner = c.head.owner; form = c.head.form; up = c.head.up; pairs = remove_entry (bytes_eq name) (named names c.entries) } in d) (sym is));
  }

  pub remove_unknown : false ≡ (is_array c.head.form && bytes_eq name length_name) → list_any (bytes_eq name) names ≡ false → IsRemoved s s i name true
  remove_unknown is none =
      let known = known_at (length names) cs i c (known_cells names (length cs) cs shape.base.fine) at in
      let p = remove_never names name (none_test names name none) c.entries known in record {
        allowed = is_open;
        answered = ap not is ∙ sym removed_is;
        done = unchanged (ap (λ b. let d : PlainCell = if b then plain names c else record { owner = c.head.owner; form = c.head.form; up = c.head.up; pairs = remove_entry (bytes_eq name) (named names c.entries) } in d) (sym is) ∙ (λ j. record { owner = c.head.owner; form = c.head.form; up = c.head.up; pairs = p j }));
      }

  pub remove_known : false ≡ (is_array c.head.form && bytes_eq name length_name) → (after : List NumberedCell) → Wrote names cs names after i (without name) → (let d : Cells = record { cells = cells_of names after; kept = kept } in IsRemoved s d i name true)
  remove_known is after wrote = record {
    allowed = is_open;
    answered = ap not is ∙ sym removed_is;
    done = (λ j. record { cells = wrote.done j; kept = kept }) ∙ ap (λ (t : Cells). remove_done t i name) view;
  }

-- what `var_set` answers
module _ (s : Cells) (names : List (List ℕ)) (cs : List NumberedCell) {raws : List (ℕ × ℕ)} (kept : List Counts) (view : (let c : Cells = record { cells = cells_of names cs; kept = kept } in c ≡ s)) (shape : IsShape names cs raws kept) (name : List ℕ) (from : ℕ) where
  holder_is : holder s.cells from name ≡ holder (cells_of names cs) from name
  holder_is = ap (λ (t : Cells). holder t.cells from name) (sym view)

  known : AreKnown (length names) cs
  known = known_cells names (length cs) cs shape.base.fine

  pub held_is : (n : ℕ) → slice_get names n ≡ Some name → numbered_holder cs from n ≡ holder s.cells from name
  held_is n at = holder_same names name n (same_test names name n shape.base.table at) cs known from ∙ sym holder_is

  pub var_found_none : holder s.cells from name ≡ None → false ≡ is_some (holder s.cells from name)
  var_found_none e = sym (ap is_some e)

  pub var_done_none : (v : Value) → holder s.cells from name ≡ None → s ≡ var_done s from name v
  var_done_none v e = λ j. record { cells = sym (ap (λ o. option_map_or (λ h. changed s.cells h (written name v)) o s.cells) e) j; kept = s.kept }

  pub unknown : list_any (bytes_eq name) names ≡ false → holder s.cells from name ≡ None
  unknown none = holder_is ∙ holder_never names name (none_test names name none) cs known from

  pub unheld : (n : ℕ) → slice_get names n ≡ Some name → numbered_holder cs from n ≡ None → holder s.cells from name ≡ None
  unheld n at e = sym (held_is n at) ∙ e

  pub from_scope : is_scope_at s.cells from ≡ true → scope_at (heads cs) from ≡ true
  from_scope e = sym (scope_same names cs from) ∙ ap (λ (t : Cells). is_scope_at t.cells from) view ∙ e

  pub var_written : (v : Value) (n h : ℕ) (after : List NumberedCell) → slice_get names n ≡ Some name → numbered_holder cs from n ≡ Some h → Wrote names cs names after h (written name v) → (let d : Cells = record { cells = cells_of names after; kept = kept } in d ≡ var_done s from name v)
  var_written v n h after at held wrote =
      let found : holder (cells_of names cs) from name ≡ Some h = sym holder_is ∙ sym (held_is n at) ∙ held in
      (λ j. record { cells = (wrote.done ∙ sym (ap (λ o. option_map_or (λ k. changed (cells_of names cs) k (written name v)) o (cells_of names cs)) found)) j; kept = kept }) ∙ ap (λ (t : Cells). var_done t from name v) view

  -- the written scope is a widget's
  pub closed_variable : (n h : ℕ) (f : PlainCell → PlainCell) (after : List NumberedCell) → scope_at (heads cs) from ≡ true → numbered_holder cs from n ≡ Some h → Wrote names cs names after h f → AreClosed (cells_of names after)
  closed_variable n h f after scope held wrote = by (slice_get cs h) refl
    where
      is_scope_h : scope_at (heads cs) h ≡ true
      is_scope_h = holder_scope names cs shape.base.ordered n from h scope held

      widget : (o : Option ℕ) → is_some o ≡ true → (w : ℕ) × (o ≡ Some w)
      widget None e = absurd (false_true e)
        where
          false_true : false ≡ true → ⊥
          false_true g = cc
      widget (Some w) e = (w, refl)

      no_cell : slice_get cs h ≡ None → numbered_has_at cs h (Some n) ≡ true → ⊥
      no_cell g e = false_true (sym (ap (λ (o : Option NumberedCell). option_map_or (numbered_has n) o false) g) ∙ e)
        where
          false_true : false ≡ true → ⊥
          false_true g = cc

      scope_writer : (o : Option ℕ) (f : Form) → is_scope f ≡ true → (if is_bunch f then None else o) ≡ o
      scope_writer o f e = ap (λ b. if b then None else o) (scope_no_bunch f e)

      by : (o : Option NumberedCell) → slice_get cs h ≡ o → AreClosed (cells_of names after)
      by None g = absurd (no_cell g (climb_has n (length cs) cs (Some from) h held))
      by (Some c) g =
          let o = shape.base.ordered.each h c.head (head_at cs h c g) in
          let is = scope_form names cs shape.base.ordered h c g is_scope_h in
          let k = widget (widget_of c.head.owner) (o.owned is) in
          closed_wrote names names cs after h k.0 c f shape.closed g (scope_writer (widget_of c.head.owner) c.head.form is ∙ k.1) wrote
