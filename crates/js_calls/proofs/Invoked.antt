-- What a call does, by what is called.
use Rattle.std.proofs.Common.{◌≡◌, ℕ, suc, true, false, List, length, refl, ap, Option, Some, None, true≢false}
use Rattle.permitted_table.specs.declared.native.NativeId.{NativeId}
use Rattle.permitted_table.specs.declared.native.HostEntry.TheVariants as host
use Rattle.widget_meaning.specs.Values.{Value, Undefined, Null, Truth, NaN, Num, Text, Own, Host, E2}
use Rattle.widget_meaning.specs.OwnState.{Kind, Object, Array, Function, Bunch, State, cell_at, kind_of}
use Rattle.widget_meaning.specs.Plan.{Do, Ret, RunNative}
use Rattle.widget_meaning.specs.Costs.{throw}
use Rattle.widget_meaning.specs.Properties.{is_function, is_function_kind}
use Rattle.widget_meaning.specs.Calls.{enter, invoke}
use Rattle.js_tree.specs.Plain.{Fun}
use Rattle.store_cells.specs.declared.value.Value.{Value as Stored}
use Rattle.store_cells.specs.declared.value.Value.TheVariants as value
use Rattle.store_cells.specs.Cells.{PlainCell}
use Rattle.store_cells.specs.Shape.{IsRefWithin}
use Rattle.js_image.specs.Held.{IsFine}

-- what a widget may hold is in the store
pub fine_within : (w : ℕ) (cells : List PlainCell) (v : Stored) → IsFine w cells v → IsRefWithin (length cells) v
fine_within w cells value.Undefined h = tt
fine_within w cells value.Null h = tt
fine_within w cells (value.Bool b) h = tt
fine_within w cells (value.Num n) h = tt
fine_within w cells (value.Text t) h = tt
fine_within w cells (value.Ref i) h = h.0

none_some : {A : Type 0} {a : A} → None ≡ Some a → ⊥
none_some e = cc

some_same : {A : Type 0} (a b : A) → Some a ≡ Some b → a ≡ b
some_same a b e = cc

-- a value of this kind is an object of the widget
pub callable : (s : State) (v : Value) (f : Fun) (o : Option ℕ) → kind_of s v ≡ Some (Function f o) → is_function s v ≡ true
callable s (Own n) f o h = ap is_function_kind h
callable s Undefined f o h = absurd (none_some h)
callable s Null f o h = absurd (none_some h)
callable s (Truth b) f o h = absurd (none_some h)
callable s NaN f o h = absurd (none_some h)
callable s (Num z) f o h = absurd (none_some h)
callable s (Text t) f o h = absurd (none_some h)
callable s (Host e) f o h = absurd (none_some h)

module _ (s : State) (this : Option Value) (vs : List Value) (d : ℕ) where
  pub function_called : (v : Value) (k : Kind) → kind_of s v ≡ Some k → invoke v this vs d s ≡ enter k v vs (suc d) s
  function_called (Own n) k h = ap (λ q. enter q (Own n) vs (suc d) s) (some_same (cell_at s n).kind k h)
  function_called Undefined k h = absurd (none_some h)
  function_called Null k h = absurd (none_some h)
  function_called (Truth b) k h = absurd (none_some h)
  function_called NaN k h = absurd (none_some h)
  function_called (Num z) k h = absurd (none_some h)
  function_called (Text t) k h = absurd (none_some h)
  function_called (Host e) k h = absurd (none_some h)

  pub native_called : (v : Value) (w : NativeId) → v ≡ Host (host.Native w) → invoke v this vs d s ≡ Do (RunNative w this vs d) s Ret
  native_called v w h = ap (λ u. invoke u this vs d s) h

  no_function : (n : ℕ) (k : Kind) → is_function_kind (Some k) ≡ false → enter k (Own n) vs (suc d) s ≡ throw E2 s
  no_function n (Function f o) h = absurd (true≢false h)
  no_function n Object h = refl
  no_function n (Array l) h = refl
  no_function n (Bunch ns) h = refl

  pub nothing_called : (v : Value) → is_function s v ≡ false → invoke v this vs d s ≡ throw E2 s
  nothing_called Undefined h = refl
  nothing_called Null h = refl
  nothing_called (Truth b) h = refl
  nothing_called NaN h = refl
  nothing_called (Num z) h = refl
  nothing_called (Text t) h = refl
  nothing_called (Own n) h = no_function n (cell_at s n).kind h
  nothing_called (Host (host.Native w)) h = absurd (true≢false h)
  nothing_called (Host host.ObjectPrototype) h = refl
  nothing_called (Host host.ArrayPrototype) h = refl
  nothing_called (Host host.FunctionPrototype) h = refl
  nothing_called (Host host.BunchPrototype) h = refl
  nothing_called (Host host.TextPrototype) h = refl
  nothing_called (Host host.NumberPrototype) h = refl
  nothing_called (Host host.BooleanPrototype) h = refl
  nothing_called (Host host.Math) h = refl
  nothing_called (Host host.Adsafe) h = refl
  nothing_called (Host host.Dom) h = refl
