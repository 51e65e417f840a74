-- A native of arrays is what it does with the Array that is its receiver.
use Rattle.std.proofs.Common.{◌≡◌, ℕ, List, refl, sym, subst, ap, ◌∙◌, Option, None, Some, true, false, Result, IfOk}
use Rattle.code_units.specs.declared.memory.Memory.{Memory}
use Rattle.js_tree.specs.Forest.{Forest}
use Rattle.permitted_table.specs.declared.native.NativeId.{NativeId}
use Rattle.permitted_table.specs.declared.native.NativeId.TheVariants as native
use Rattle.permitted_table.specs.declared.native.PrototypeNative.TheVariants as prototype
use Rattle.permitted_table.specs.declared.native.ListNative.{ListNative}
use Rattle.store_cells.specs.declared.value.Value.{Value as StoreValue}
use Rattle.store_cells.specs.Cells.{Cells}
use Rattle.widget_meaning.specs.Values.{Value, E3}
use Rattle.widget_meaning.specs.OwnState.{State}
use Rattle.widget_meaning.specs.Plan.{Plan}
use Rattle.widget_meaning.specs.Costs.{throw}
use Rattle.widget_meaning.specs.ListNatives.{list_method}
use Rattle.widget_meaning.specs.Natives.{run_native}
use Rattle.widget_meaning.specs.NativeForms.{on_array}
use Rattle.js_image.specs.Image.{Rest, image}
use Rattle.js_values.specs.Fuel.{Fuel}
use Rattle.js_values.specs.declared.outcome.NativeOut.{NativeOut}
use Rattle.native_common.specs.Refines.{Refines}
use Rattle.native_common.specs.Receivers.{receiver}
use Rattle.native_common.proofs.Meeting.{ok_refines_same}
use Rattle.list_methods.specs.declared.array.OwnArray.{OwnArray}
use Rattle.list_methods.specs.Arrays.{number, on_own}
use Rattle.list_methods.specs.Parts.{is_part, method}

false_true : false ≡ true → ⊥
false_true h = cc

natives_are : (which : NativeId) → is_part which ≡ true → (this : Option Value) (vs : List Value) (d : ℕ) (s : State) → run_native which this vs d s ≡ on_array this s (λ n len. method which n len vs d s)
natives_are (native.List m) h this vs d s = refl
natives_are (native.Prototype prototype.ArrayToString) h this vs d s = refl
natives_are _ h this vs d s = absurd (false_true h)

module _ (w : ℕ) (s : Cells) (this : StoreValue) (o : Option OwnArray) (plan : (fs : List Forest) (r : Rest) (k : ℕ → ℕ → Plan) → on_array (receiver w s.cells this) (image fs r w s) k ≡ on_own w s o (image fs r w s) k) (which : NativeId) (part : is_part which ≡ true) (vs : List Value) (fs : List Forest) (r : Rest) (d : ℕ) where
  pub no_receiver : o ≡ None → run_native which (receiver w s.cells this) vs d (image fs r w s) ≡ throw E3 (image fs r w s)
  no_receiver e = natives_are which part (receiver w s.cells this) vs d (image fs r w s) ∙ plan fs r (λ n len. method which n len vs d (image fs r w s)) ∙ ap (λ (p : Option OwnArray). on_own w s p (image fs r w s) (λ n len. method which n len vs d (image fs r w s))) e

  called : (a : OwnArray) → o ≡ Some a → (is : NativeId) → which ≡ is → run_native which (receiver w s.cells this) vs d (image fs r w s) ≡ method is (number w s a) a.len vs d (image fs r w s)
  called a e is same =
      natives_are which part (receiver w s.cells this) vs d (image fs r w s) ∙ plan fs r (λ n len. method which n len vs d (image fs r w s)) ∙ ap (λ (p : Option OwnArray). on_own w s p (image fs r w s) (λ n len. method which n len vs d (image fs r w s))) e
      ∙ ap (λ x. method x (number w s a) a.len vs d (image fs r w s)) same

-- an answer that meets what the native does with its Array meets the native
pub answered : (w : ℕ) (old new : Cells) (this : StoreValue) (o : Option OwnArray) → ((fs : List Forest) (r : Rest) (k : ℕ → ℕ → Plan) → on_array (receiver w old.cells this) (image fs r w old) k ≡ on_own w old o (image fs r w old) k)
    → (which : NativeId) → is_part which ≡ true → (vs : List Value) (a : OwnArray) → o ≡ Some a → (is : NativeId) → which ≡ is
    → (had has : Fuel) (result : Result NativeOut Memory) → IfOk result (Refines w old new had has (λ d s. method is (number w old a) a.len vs d s)) → IfOk result (Refines w old new had has (run_native which (receiver w old.cells this) vs))
answered w old new this o plan which part vs a here is same had has result h =
    ok_refines_same w old new (run_native which (receiver w old.cells this) vs) (λ d s. method is (number w old a) a.len vs d s) result had has
    (λ fs r d. called w old this o plan which part vs fs r d a here is same) h

-- an answer that meets what a method does
pub of_method : (w : ℕ) (old new : Cells) (n len : ℕ) (vs : List Value) (had has : Fuel) (result : Result NativeOut Memory) (m k : ListNative) → m ≡ k → IfOk result (Refines w old new had has (λ d s. list_method k n len vs d s)) → IfOk result (Refines w old new had has (λ d s. list_method m n len vs d s))
of_method w old new n len vs had has result m k e h = subst (λ x. IfOk result (Refines w old new had has (λ d s. list_method x n len vs d s))) (sym e) h
