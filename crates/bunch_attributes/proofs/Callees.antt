-- What is called as a function of the widget.
use Rattle.std.proofs.Common.{◌≡◌, ℕ, List, Bool, ap, refl, true, false, if◌then◌else◌}
use Rattle.js_tree.specs.Forest.{Forest}
use Rattle.permitted_table.specs.declared.native.HostEntry.TheVariants as entry
use Rattle.store_cells.specs.declared.value.Value.TheVariants as value
use Rattle.store_cells.specs.Cells.{PlainCell, own_count}
use Rattle.object_store.specs.Owned as store
use Rattle.object_store.specs.Owned.{visible_at}
use Rattle.widget_meaning.specs.Values.{Value, Undefined, Null, Truth, NaN, Num, Text, Own, Host}
use Rattle.widget_meaning.specs.OwnState.{State}
use Rattle.widget_meaning.specs.Properties.{is_function, is_function_kind, is_own_function}
use Rattle.js_image.specs.declared.outcome.Callee.{Callee}
use Rattle.js_image.specs.declared.outcome.Callee.TheVariants as callee
use Rattle.js_image.specs.Callees.{IsCallee}
use Rattle.js_image.specs.Held.{IsFine}
use Rattle.js_image.specs.Image.{meant, seen}
use Rattle.native_image.specs.Sound.{IsOwnCell}
use Rattle.bunch_attributes.specs.Callees.{is_function_callee}

no_true : false ≡ true → ⊥
no_true h = cc

no_function : (s : State) (v : Value) → is_function s v ≡ false → is_own_function s v ≡ false
no_function s (Host (entry.Native n)) h = refl
no_function s Undefined h = refl
no_function s Null h = refl
no_function s (Truth b) h = refl
no_function s NaN h = refl
no_function s (Num z) h = refl
no_function s (Text t) h = refl
no_function s (Own n) h = h
no_function s (Host e) h = refl

pub callee_seen : (fs : List Forest) (w : ℕ) (cells : List PlainCell) (c : Callee) (s : State) (v : Value) → IsCallee fs w cells c s v → is_own_function s v ≡ is_function_callee c
callee_seen fs w cells (callee.Function p) s v h = ap is_function_kind h
callee_seen fs w cells (callee.Native n) s v h = ap (is_own_function s) h
callee_seen fs w cells callee.Nothing s v h = no_function s v h

module _ (w : ℕ) (cells : List PlainCell) (s : State) (i : ℕ) where
  -- a function of the widget is a visible cell of it
  pub function_visible : is_own_function s (seen w cells (value.Ref i)) ≡ true → visible_at w cells i ≡ true
  function_visible = by (visible_at w cells i)
    where
      by : (b : Bool) → is_own_function s (meant (if b then store.Own (own_count w cells i) else store.Other i)) ≡ true → b ≡ true
      by true e = refl
      by false e = absurd (no_true e)

  pub function_seen : is_own_function s (seen w cells (value.Ref i)) ≡ true → seen w cells (value.Ref i) ≡ Own (own_count w cells i)
  function_seen e = ap (λ b. meant (if b then store.Own (own_count w cells i) else store.Other i)) (function_visible e)

  pub function_own : IsFine w cells (value.Ref i) → is_own_function s (seen w cells (value.Ref i)) ≡ true → IsOwnCell w cells i
  function_own fine e = (fine.0, function_visible e)
