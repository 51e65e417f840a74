-- What a value is when it is called, as the widget sees it.
use Rattle.std.proofs.Common.{◌≡◌, ℕ, ◌<◌, List, length, refl, sym, ap, ◌∙◌, subst, Option, Some, Bool, true, false, if◌then◌else◌, slice_get}
use Rattle.std.specs.Prelude.{IfSome}
use Rattle.std.specs.Option.{option_map_or}
use Rattle.js_tree.specs.Forest.{Forest}
use Rattle.permitted_table.specs.declared.native.NativeId.{NativeId}
use Rattle.permitted_table.specs.declared.native.HostEntry.{HostEntry}
use Rattle.permitted_table.specs.declared.native.HostEntry.TheVariants as entry
use Rattle.store_cells.specs.declared.value.Value.{Value}
use Rattle.store_cells.specs.declared.value.Value.TheVariants as value
use Rattle.store_cells.specs.declared.value.Number.TheVariants as number
use Rattle.store_cells.specs.declared.kind.Form.{Form}
use Rattle.store_cells.specs.declared.kind.Form.TheVariants as form
use Rattle.store_cells.specs.declared.kind.FunParts.{FunParts}
use Rattle.store_cells.specs.Cells as cells_of
use Rattle.store_cells.specs.Cells.{Cells, PlainCell, is_visible_form, native_in, own_count}
use Rattle.store_cells.specs.Host.{entry_form}
use Rattle.object_store.specs.Owned as store
use Rattle.object_store.specs.Owned.{own_kind, visible_at}
use Rattle.widget_meaning.specs.Values as meaning
use Rattle.widget_meaning.specs.OwnState.{Cell, State, cell_at, kind_of}
use Rattle.widget_meaning.specs.Properties.{is_function, is_function_kind}
use Rattle.js_image.specs.declared.outcome.Callee.TheVariants as callee
use Rattle.js_image.specs.Image.{Rest, entry_at, image, meant, meant_kind, seen}
use Rattle.js_image.specs.Held.{IsConfined, IsFine, IsFunOf, IsHeld, IsPlaceScope}
use Rattle.js_image.specs.Laws.{AreLawful}
use Rattle.js_image.specs.Callees.{IsCallee, IsFineCallee, callee_at, callee_by, callee_in, stored_callee}
use Rattle.js_image.proofs.Chains.{visible_form}
use Rattle.js_image.proofs.Hosts.{get_there, host_is, host_link}
use Rattle.js_image.proofs.Puts.{cell_there, permitted_else, shows}

false_true : false ≡ true → ⊥
false_true h = cc

-- a cell by what it has of a function or a native
pub callee_parts : (cells : List PlainCell) (i : ℕ) → i < length cells → (p : Option FunParts) (n : Option NativeId) → IfSome (slice_get cells i) (λ c. p ≡ cells_of.function_in c.form) → IfSome (slice_get cells i) (λ c. n ≡ native_in c.form) → callee_by p n ≡ callee_at cells i
callee_parts cells i lt p n fun native =
    let c = get_there cells i lt in
    let a : p ≡ cells_of.function_in c.0.form = subst (λ (o : Option PlainCell). IfSome o (λ d. p ≡ cells_of.function_in d.form)) c.1 fun in
    let b : n ≡ native_in c.0.form = subst (λ (o : Option PlainCell). IfSome o (λ d. n ≡ native_in d.form)) c.1 native in
    (λ j. callee_by (a j) (b j)) ∙ by c.0.form ∙ sym (ap (λ (o : Option PlainCell). option_map_or (λ d. callee_in d.form) o callee.Nothing) c.1)
  where
    by : (f : Form) → callee_by (cells_of.function_in f) (native_in f) ≡ callee_in f
    by form.Object = refl
    by form.Array = refl
    by (form.Function q) = refl
    by (form.Native m) = refl
    by form.Scope = refl
    by form.Bunch = refl
    by (form.RawNode m) = refl
    by form.Global = refl

module _ (fs : List Forest) (w : ℕ) (s : Cells) where
  -- a cell of the widget
  own_called : (r : Rest) (c : PlainCell) (m : ℕ) (v : meaning.Value) → v ≡ meaning.Own m → (f : Form) → is_visible_form f ≡ true → (cell_at (image fs r w s) m).kind ≡ meant_kind fs r.nodes (own_kind w s.cells c f) → IsCallee fs w s.cells (callee_in f) (image fs r w s) v
  own_called r c m v own (form.Function p) mine kind = ap (kind_of (image fs r w s)) own ∙ ap Some kind
  own_called r c m v own form.Object mine kind = ap (is_function (image fs r w s)) own ∙ ap (λ k. is_function_kind (Some k)) kind
  own_called r c m v own form.Array mine kind = ap (is_function (image fs r w s)) own ∙ ap (λ k. is_function_kind (Some k)) kind
  own_called r c m v own form.Bunch mine kind = ap (is_function (image fs r w s)) own ∙ ap (λ k. is_function_kind (Some k)) kind
  own_called r c m v own (form.Native n) mine kind = absurd (false_true mine)
  own_called r c m v own form.Scope mine kind = absurd (false_true mine)
  own_called r c m v own (form.RawNode n) mine kind = absurd (false_true mine)
  own_called r c m v own form.Global mine kind = absurd (false_true mine)

  -- a cell of the table
  entry_called : (t : State) (e : HostEntry) → IsCallee fs w s.cells (callee_in (entry_form e)) t (meaning.Host e)
  entry_called t (entry.Native n) = refl
  entry_called t entry.ObjectPrototype = refl
  entry_called t entry.ArrayPrototype = refl
  entry_called t entry.FunctionPrototype = refl
  entry_called t entry.BunchPrototype = refl
  entry_called t entry.TextPrototype = refl
  entry_called t entry.NumberPrototype = refl
  entry_called t entry.BooleanPrototype = refl
  entry_called t entry.Math = refl
  entry_called t entry.Adsafe = refl
  entry_called t entry.Dom = refl

  entry_fine : (e : HostEntry) → IsFineCallee fs w s.cells (callee_in (entry_form e))
  entry_fine (entry.Native n) = tt
  entry_fine entry.ObjectPrototype = tt
  entry_fine entry.ArrayPrototype = tt
  entry_fine entry.FunctionPrototype = tt
  entry_fine entry.BunchPrototype = tt
  entry_fine entry.TextPrototype = tt
  entry_fine entry.NumberPrototype = tt
  entry_fine entry.BooleanPrototype = tt
  entry_fine entry.Math = tt
  entry_fine entry.Adsafe = tt
  entry_fine entry.Dom = tt

  module _ (laws : AreLawful s.cells) where
    form_at : (i : ℕ) (c : PlainCell) → slice_get s.cells i ≡ Some c → callee_at s.cells i ≡ callee_in c.form
    form_at i c at = ap (λ (o : Option PlainCell). option_map_or (λ d. callee_in d.form) o callee.Nothing) at

    cell_called : (r : Rest) (i : ℕ) → IsHeld w s.cells i → IsCallee fs w s.cells (callee_at s.cells i) (image fs r w s) (seen w s.cells (value.Ref i))
    cell_called r i held = by (get_there s.cells i held.0) (visible_at w s.cells i) refl
      where
        by : (there : (c : PlainCell) × (slice_get s.cells i ≡ Some c)) (b : Bool) → visible_at w s.cells i ≡ b → IsCallee fs w s.cells (callee_at s.cells i) (image fs r w s) (seen w s.cells (value.Ref i))
        by there true e =
            let c = there.0 in
            let mine = shows w s.cells i c there.1 ∙ e in
            subst (λ q. IsCallee fs w s.cells q (image fs r w s) (seen w s.cells (value.Ref i))) (sym (form_at i c there.1))
            (own_called r c (own_count w s.cells i) (seen w s.cells (value.Ref i)) (ap (λ b. meant (if b then store.Own (own_count w s.cells i) else store.Other i)) e) c.form (visible_form w c mine) (ap (λ (d : Cell). d.kind) (cell_there fs r w s i c there.1 mine)))
        by there false e =
            let c = there.0 in
            let p = permitted_else w s.cells i held e in
            subst (λ q. IsCallee fs w s.cells q (image fs r w s) (seen w s.cells (value.Ref i))) (sym (form_at i c there.1 ∙ ap (λ (d : PlainCell). callee_in d.form) (host_is w s.cells laws i c p there.1)))
            (subst (IsCallee fs w s.cells (callee_in (entry_form (entry_at i))) (image fs r w s)) (sym (host_link w s.cells laws i p)) (entry_called (image fs r w s) (entry_at i)))

    -- what a value is when it is called
    pub value_called : (r : Rest) (v : Value) → IsFine w s.cells v → IsCallee fs w s.cells (stored_callee s.cells v) (image fs r w s) (seen w s.cells v)
    value_called r value.Undefined h = refl
    value_called r value.Null h = refl
    value_called r (value.Bool b) h = refl
    value_called r (value.Num number.NaN) h = refl
    value_called r (value.Num (number.Whole z)) h = refl
    value_called r (value.Text t) h = refl
    value_called r (value.Ref i) h = cell_called r i h

    own_fine : (f : Form) → IfSome (cells_of.function_in f) (λ p. IsFunOf fs p × IsPlaceScope w s.cells p.scope) → IsFineCallee fs w s.cells (callee_in f)
    own_fine (form.Function p) h = h
    own_fine form.Object h = tt
    own_fine form.Array h = tt
    own_fine form.Bunch h = tt
    own_fine (form.Native n) h = tt
    own_fine form.Scope h = tt
    own_fine (form.RawNode n) h = tt
    own_fine form.Global h = tt

    -- a function that is called is the widget's
    pub value_fine : IsConfined fs w s → (v : Value) → IsFine w s.cells v → IsFineCallee fs w s.cells (stored_callee s.cells v)
    value_fine confined value.Undefined h = tt
    value_fine confined value.Null h = tt
    value_fine confined (value.Bool b) h = tt
    value_fine confined (value.Num n) h = tt
    value_fine confined (value.Text t) h = tt
    value_fine confined (value.Ref i) held = by (get_there s.cells i held.0) (visible_at w s.cells i) refl
      where
        by : (there : (c : PlainCell) × (slice_get s.cells i ≡ Some c)) (b : Bool) → visible_at w s.cells i ≡ b → IsFineCallee fs w s.cells (callee_at s.cells i)
        by there true e =
            let c = there.0 in
            subst (IsFineCallee fs w s.cells) (sym (form_at i c there.1)) (own_fine c.form ((confined.each i c there.1).cell (shows w s.cells i c there.1 ∙ e)).fun)
        by there false e =
            let c = there.0 in
            subst (IsFineCallee fs w s.cells) (sym (form_at i c there.1 ∙ ap (λ (d : PlainCell). callee_in d.form) (host_is w s.cells laws i c (permitted_else w s.cells i held e) there.1))) (entry_fine (entry_at i))
