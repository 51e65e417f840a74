-- The receiver of `hasOwnProperty`.
use Rattle.std.proofs.Common.{◌≡◌, ℕ, List, length, refl, ap, sym, ◌∙◌, Some, None, Bool, true, false, if◌then◌else◌}
use Rattle.std.specs.Prelude.{◌||◌, ◌&&◌}
use Rattle.js_tree.specs.Forest.{Forest}
use Rattle.store_cells.specs.declared.value.Value.{Value as StoreValue}
use Rattle.store_cells.specs.declared.value.Value.TheVariants as value
use Rattle.store_cells.specs.declared.value.Number.TheVariants as number
use Rattle.store_cells.specs.Cells.{Cells, PlainCell, own_count}
use Rattle.store_cells.specs.Shape.{IsRefWithin}
use Rattle.object_store.specs.Owned as store
use Rattle.object_store.specs.Owned.{visible_at}
use Rattle.widget_meaning.specs.Values as meaning
use Rattle.widget_meaning.specs.Values.{E3, Value}
use Rattle.widget_meaning.specs.OwnState.{State}
use Rattle.widget_meaning.specs.Plan.{Plan}
use Rattle.widget_meaning.specs.Costs.{throw}
use Rattle.widget_meaning.specs.NativeForms.{on_object}
use Rattle.js_image.specs.Image.{Rest, image, meant, seen}
use Rattle.js_image.specs.Held.{IsConfined, IsFine, is_held}
use Rattle.js_image.proofs.Grown.{kept_same}
use Rattle.js_values.specs.Answers.{IsFineOut, IsOutOfFuel, Leaves}
use Rattle.js_values.specs.declared.outcome.NativeOut.{NativeOut}
use Rattle.native_common.specs.Receivers.{IsReceiver, is_plain_call, receiver}
use Rattle.native_common.proofs.Seen.{ref_is_object}
use Rattle.adsafe_object.specs.Ends.{EndsConfined}

-- ## Both tests

pub and_false : (a : Bool) → (a && false) ≡ false
and_false true = refl
and_false false = refl

pub and_true : (a : Bool) → (a && true) ≡ a
and_true true = refl
and_true false = refl

-- ## The answer of a native that changes nothing

pub confined_here : (w : ℕ) (s : Cells) (plan : ℕ → State → Plan) (o : NativeOut)
    → ((fs : List Forest) (r : Rest) (node : ℕ → ℕ) (d : ℕ) → IsConfined fs w s → Leaves (seen w s.cells) node d o (image fs r w s) (plan d (image fs r w s)))
    → IsFineOut w s.cells o → (IsOutOfFuel o → ⊥) → EndsConfined w s s plan o
confined_here w s plan o leaves fine paid = record {
  leaves = leaves;
  fine = λ fs confined. fine;
  paid = paid;
  kept = λ fs. kept_same fs w s s refl;
}

-- ## The receiver

true_false : true ≡ false → ⊥
true_false h = cc

false_true : false ≡ true → ⊥
false_true h = cc

module _ (w : ℕ) (cells : List PlainCell) where
  -- a plain call has none
  pub on_plain : (v : StoreValue) (s : State) (k : Value → Plan) → is_plain_call v ≡ true → on_object (receiver w cells v) s k ≡ throw E3 s
  on_plain value.Undefined s k e = refl
  on_plain value.Null s k e = refl
  on_plain (value.Bool b) s k e = refl
  on_plain (value.Num number.NaN) s k e = refl
  on_plain (value.Num (number.Whole z)) s k e = refl
  on_plain (value.Text t) s k e = refl
  on_plain (value.Ref i) s k e = ap (λ b. on_object (if b then None else Some (seen w cells (value.Ref i))) s k) e

  -- a primitive is none
  pub on_other : (v : StoreValue) (s : State) (k : Value → Plan) → meaning.is_object (seen w cells v) ≡ false → on_object (receiver w cells v) s k ≡ throw E3 s
  on_other value.Undefined s k e = refl
  on_other value.Null s k e = refl
  on_other (value.Bool b) s k e = refl
  on_other (value.Num number.NaN) s k e = refl
  on_other (value.Num (number.Whole z)) s k e = refl
  on_other (value.Text t) s k e = refl
  on_other (value.Ref i) s k e = absurd (true_false (sym (ref_is_object w cells i) ∙ e))

  -- an object is one
  pub on_own : (v : StoreValue) (s : State) (k : Value → Plan) → is_plain_call v ≡ false → meaning.is_object (seen w cells v) ≡ true → on_object (receiver w cells v) s k ≡ k (seen w cells v)
  on_own value.Undefined s k e o = absurd (false_true o)
  on_own value.Null s k e o = absurd (false_true o)
  on_own (value.Bool b) s k e o = absurd (false_true o)
  on_own (value.Num number.NaN) s k e o = absurd (false_true o)
  on_own (value.Num (number.Whole z)) s k e o = absurd (false_true o)
  on_own (value.Text t) s k e o = absurd (false_true o)
  on_own (value.Ref i) s k e o = ap (λ b. on_object (if b then None else Some (seen w cells (value.Ref i))) s k) e ∙ by (visible_at w cells i)
    where
      by : (b : Bool) → on_object (Some (meant (if b then store.Own (own_count w cells i) else store.Other i))) s k ≡ k (meant (if b then store.Own (own_count w cells i) else store.Other i))
      by true = refl
      by false = refl

  -- the widget may hold it
  pub receiver_fine : (v : StoreValue) → IsReceiver w cells v → is_plain_call v ≡ false → IsFine w cells v
  receiver_fine value.Undefined h e = tt
  receiver_fine value.Null h e = tt
  receiver_fine (value.Bool b) h e = tt
  receiver_fine (value.Num n) h e = tt
  receiver_fine (value.Text t) h e = tt
  receiver_fine (value.Ref i) h e = (h.0, sym (ap (λ b. b || is_held w cells i) e) ∙ h.1)

  pub receiver_within : (v : StoreValue) → IsReceiver w cells v → IsRefWithin (length cells) v
  receiver_within value.Undefined h = tt
  receiver_within value.Null h = tt
  receiver_within (value.Bool b) h = tt
  receiver_within (value.Num n) h = tt
  receiver_within (value.Text t) h = tt
  receiver_within (value.Ref i) h = h.0
