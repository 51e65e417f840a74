-- What the natives of this crate are in the meaning.
use Rattle.std.proofs.Common.{◌≡◌, ℕ, zero, suc, Bool, List, [], ◌∷◌, true, false, refl, sym, ap, ◌∙◌, subst, Option, None, Some, if◌then◌else◌, ◌||◌}
use Rattle.std.specs.Prelude.{Result, nat_eq, slice_get, unwrap_or}
use Rattle.code_units.specs.declared.memory.Memory.{Memory}
use Rattle.std.specs.Option.{option_and_then}
use Rattle.permitted_table.specs.declared.native.NativeId.{NativeId}
use Rattle.permitted_table.specs.declared.native.NativeId.TheVariants as native
use Rattle.store_cells.specs.declared.value.Value.{Value}
use Rattle.store_cells.specs.declared.value.Value.TheVariants as value
use Rattle.store_cells.specs.declared.value.Number.TheVariants as number
use Rattle.store_cells.specs.Cells.{PlainCell}
use Rattle.store_cells.specs.Host.{global}
use Rattle.js_image.specs.Held.{AreFine, IsFine, IsHeld, is_held}
use Rattle.js_image.specs.Image.{all_seen, seen}
use Rattle.js_image.specs.Reads.{cell_in}
use Rattle.js_values.specs.Fuel.{Fuel}
use Rattle.js_values.specs.declared.outcome.NativeOut.{NativeOut}
use Rattle.native_common.specs.Receivers.{IsReceiver, receiver}
use Rattle.native_common.proofs.Seen.{nth_seen}
use Rattle.widget_meaning.specs.Values as meaning
use Rattle.permitted_table.specs.declared.native.DomNative.{DomNative}
use Rattle.permitted_table.specs.declared.native.DomNative.TheVariants as dom_names
use Rattle.permitted_table.specs.declared.native.ReadNative.{ReadNative}
use Rattle.permitted_table.specs.declared.native.ReadNative.TheVariants as read_names
use Rattle.permitted_table.specs.declared.native.WriteNative.TheVariants as write_names
use Rattle.permitted_table.specs.declared.native.WriteNative.{WriteNative}
use Rattle.widget_meaning.specs.Natives.{run_native}
use Rattle.widget_meaning.specs.Plan.{Plan}
use Rattle.widget_meaning.specs.BunchReads.{read_native}
use Rattle.widget_meaning.specs.BunchWrites.{write_method}
use Rattle.widget_meaning.specs.DomNatives.{dom_native}
use Rattle.widget_meaning.specs.Dispatch.{bubble}
use Rattle.widget_meaning.specs.OwnState as state
use Rattle.widget_meaning.specs.OwnState.{State}
use Rattle.widget_meaning.specs.Costs.{or_throw, throw}
use Rattle.native_image.specs.Handed.{Runs}
use Rattle.native_image.specs.declared.handed.Shared.{Shared}
use Rattle.native_image.specs.declared.handed.Widget.{Widget}
use Rattle.bunch_write.specs.Part.{is_part}

not_here : false ≡ true → ⊥
not_here e = cc

-- a method reads only its first two arguments; one is named, and `_` are all others
pub two_alone : (m : WriteNative) (ns : List ℕ) (b : meaning.Value) (vs : List meaning.Value) (d : ℕ) (s : State) → write_method m ns b vs d s ≡ write_method m ns b (meaning.nth 0 vs ∷ meaning.nth 1 vs ∷ []) d s
two_alone write_names.Append ns b vs d s = refl
two_alone _ ns b vs d s = refl

-- an argument
pub arg_seen : (w : ℕ) (cells : List PlainCell) (vs : List Value) (n : ℕ) (v : Value) → v ≡ unwrap_or (slice_get vs n) value.Undefined → meaning.nth n (all_seen w cells vs) ≡ seen w cells v
arg_seen w cells vs n v e = nth_seen w cells vs n ∙ ap (seen w cells) (sym e)

pub arg_fine : (w : ℕ) (cells : List PlainCell) (vs : List Value) (n : ℕ) (v : Value) → v ≡ unwrap_or (slice_get vs n) value.Undefined → AreFine w cells vs → IsFine w cells v
arg_fine w cells vs n v e h = subst (IsFine w cells) (sym e) (at vs n h)
  where
    at : (vs : List Value) (n : ℕ) → AreFine w cells vs → IsFine w cells (unwrap_or (slice_get vs n) value.Undefined)
    at [] n h = tt
    at (u ∷ vs) zero h = h.0
    at (u ∷ vs) (suc n) h = at vs n h.1

-- one method
pub of_method : (h new : Shared) (v u : Widget) (had has : Fuel) (cell : ℕ) (ns : List ℕ) (first second : Value) (r : Result NativeOut Memory) (m k : WriteNative) → m ≡ k → Runs h new v u had has k cell ns (first ∷ second ∷ []) r → Runs h new v u had has m cell ns (first ∷ second ∷ []) r
of_method h new v u had has cell ns first second r m k e x = subst (λ q. Runs h new v u had has q cell ns (first ∷ second ∷ []) r) (sym e) x

module _ (which : NativeId) (this : Option meaning.Value) (vs : List meaning.Value) (u v : meaning.Value) (first : meaning.nth 0 vs ≡ u) (second : meaning.nth 1 vs ≡ v) (d : ℕ) (s : State) where
  abbrev run : NativeId → Plan
  run n = run_native n this vs d s

  pub bubble_same : which ≡ native.Bubble → run which ≡ bubble s.dispatches s
  bubble_same is = ap run is

  pub tag_same : (n : DomNative) → which ≡ native.Dom n → n ≡ dom_names.DomTag → run which ≡ dom_native dom_names.DomTag this (u ∷ v ∷ []) d s
  tag_same n is e = ap run is ∙ ap (λ k. dom_native k this vs d s) e ∙ (λ j. dom_native dom_names.DomTag this (first j ∷ second j ∷ []) d s)

  pub text_same : (n : DomNative) → which ≡ native.Dom n → n ≡ dom_names.DomText → run which ≡ dom_native dom_names.DomText this (u ∷ []) d s
  text_same n is e = ap run is ∙ ap (λ k. dom_native k this vs d s) e ∙ (λ j. dom_native dom_names.DomText this (first j ∷ []) d s)

  pub append_same : (n : DomNative) → which ≡ native.Dom n → n ≡ dom_names.DomAppend → run which ≡ dom_native dom_names.DomAppend this (u ∷ []) d s
  append_same n is e = ap run is ∙ ap (λ k. dom_native k this vs d s) e ∙ (λ j. dom_native dom_names.DomAppend this (first j ∷ []) d s)

  pub explode_same : (n : ReadNative) → is_part which ≡ true → which ≡ native.Read n → run which ≡ read_native read_names.Explode this vs d s
  explode_same n part is = by n is (sym (ap is_part is) ∙ part)
    where
      by : (k : ReadNative) → which ≡ native.Read k → is_part (native.Read k) ≡ true → run which ≡ read_native read_names.Explode this vs d s
      by read_names.Explode e g = ap run e
      by _ e g = absurd (not_here g)

  -- a method of a Bunch
  pub method_same : (m : WriteNative) → which ≡ native.Write m → (ns : List ℕ) (b : meaning.Value) → option_and_then (λ x. state.bunch_nodes (state.kind_of s x)) this ≡ Some ns → this ≡ Some b → run which ≡ write_method m ns b (u ∷ v ∷ []) d s
  method_same m is ns b h it =
      ap run is
      ∙ ap (λ o. or_throw meaning.E3 o s (λ ms. write_method m ms (unwrap_or this meaning.Undefined) vs d s)) h
      ∙ ap (λ o. write_method m ns (unwrap_or o meaning.Undefined) vs d s) it
      ∙ two_alone m ns b vs d s
      ∙ (λ j. write_method m ns b (first j ∷ second j ∷ []) d s)

  -- of what is no Bunch
  pub method_none : (m : WriteNative) → which ≡ native.Write m → option_and_then (λ x. state.bunch_nodes (state.kind_of s x)) this ≡ None → run which ≡ throw meaning.E3 s
  method_none m is h =
      ap run is
      ∙ ap (λ o. or_throw meaning.E3 o s (λ ms. write_method m ms (unwrap_or this meaning.Undefined) vs d s)) h

-- ## Receivers

none_some : {A : Type 0} {a : A} → None ≡ Some a → ⊥
none_some e = cc

module _ (w : ℕ) (cells : List PlainCell) where
  -- what refers to no cell is no Bunch
  pub no_bunch : (v : Value) → cell_in v ≡ None → (s : State) → option_and_then (λ x. state.bunch_nodes (state.kind_of s x)) (receiver w cells v) ≡ None
  no_bunch value.Undefined e s = refl
  no_bunch value.Null e s = refl
  no_bunch (value.Bool b) e s = refl
  no_bunch (value.Num number.NaN) e s = refl
  no_bunch (value.Num (number.Whole z)) e s = refl
  no_bunch (value.Text t) e s = refl
  no_bunch (value.Ref i) e s = cc

  -- a Bunch as receiver is a cell that the widget holds
  module _ (v : Value) (i : ℕ) (e : cell_in v ≡ Some i) (s : State) (ns : List ℕ) (h : option_and_then (λ x. state.bunch_nodes (state.kind_of s x)) (receiver w cells v) ≡ Some ns) where
    some_is : (a b : ℕ) → Some a ≡ Some b → a ≡ b
    some_is a b f = cc

    refers : v ≡ value.Ref i
    refers = by v e
      where
        by : (u : Value) → cell_in u ≡ Some i → u ≡ value.Ref i
        by value.Undefined f = absurd (none_some f)
        by value.Null f = absurd (none_some f)
        by (value.Bool b) f = absurd (none_some f)
        by (value.Num n) f = absurd (none_some f)
        by (value.Text t) f = absurd (none_some f)
        by (value.Ref j) f = ap value.Ref (some_is j i f)

    no_global : nat_eq i global ≡ false
    no_global = by (nat_eq i global) refl (sym (ap (λ u. option_and_then (λ x. state.bunch_nodes (state.kind_of s x)) (receiver w cells u)) refers) ∙ h)
      where
        by : (b : Bool) → nat_eq i global ≡ b → option_and_then (λ x. state.bunch_nodes (state.kind_of s x)) (if nat_eq i global then None else Some (seen w cells (value.Ref i))) ≡ Some ns → b ≡ false
        by true f g = absurd (none_some (sym (ap (λ b. option_and_then (λ x. state.bunch_nodes (state.kind_of s x)) (if b then None else Some (seen w cells (value.Ref i)))) f) ∙ g))
        by false f g = refl

    pub receiver_is : receiver w cells v ≡ Some (seen w cells (value.Ref i))
    receiver_is = ap (receiver w cells) refers ∙ ap (λ b. if b then None else Some (seen w cells (value.Ref i))) no_global

    pub receiver_held : IsReceiver w cells v → IsHeld w cells i
    receiver_held r = let q = subst (IsReceiver w cells) refers r in (q.0, ap (λ b. b || is_held w cells i) (sym no_global) ∙ q.1)
