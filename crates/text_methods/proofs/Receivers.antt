-- What a receiver is to the natives of this crate.
use Rattle.std.proofs.Common.{◌≡◌, ℕ, List, Bool, true, false, Option, Some, None, refl, ap, ◌∙◌, nat_eq, if◌then◌else◌}
use Rattle.store_cells.specs.declared.value.Value.{Value as StoreValue}
use Rattle.store_cells.specs.declared.value.Value.TheVariants as value
use Rattle.store_cells.specs.declared.value.Number.{Number}
use Rattle.store_cells.specs.declared.value.Number.TheVariants as numbers
use Rattle.store_cells.specs.Cells.{Cells, PlainCell, own_count}
use Rattle.store_cells.specs.Host.{global}
use Rattle.object_store.specs.Owned as store
use Rattle.object_store.specs.Owned.{visible_at}
use Rattle.widget_meaning.specs.Values as meaning
use Rattle.widget_meaning.specs.Values.{Value, Undefined}
use Rattle.widget_meaning.specs.OwnState.{State}
use Rattle.widget_meaning.specs.Plan.{Plan}
use Rattle.widget_meaning.specs.Costs.{give, throw}
use Rattle.widget_meaning.specs.NativeForms.{on_object, on_text}
use Rattle.widget_meaning.specs.GlobalNatives.{global_native}
use Rattle.widget_meaning.specs.MathNatives.{math_native}
use Rattle.permitted_table.specs.declared.native.GlobalNative.{GlobalNative}
use Rattle.permitted_table.specs.declared.native.GlobalNative.TheVariants.{BooleanOf}
use Rattle.permitted_table.specs.declared.native.MathNative.{MathNative}
use Rattle.permitted_table.specs.declared.native.MathNative.TheVariants.{Abs}
use Rattle.js_image.specs.Image.{image, meant, seen}
use Rattle.js_values.specs.declared.outcome.NativeOut.TheVariants as native
use Rattle.native_common.specs.Refines.{Ends}
use Rattle.native_common.proofs.Meeting.{ends_here}
use Rattle.std.proofs.Common.{sym}
use Rattle.std.specs.Prelude.{codes, ◌||◌}
use Rattle.std.specs.Option.{option_map}
use Rattle.js_tree.specs.Forest.{Forest}
use Rattle.permitted_table.specs.declared.native.HostEntry.TheVariants as host
use Rattle.object_store.specs.Owned.{scope_number}
use Rattle.widget_meaning.specs.OwnState.{Function, kind_of as kind_at}
use Rattle.widget_meaning.specs.Properties.{is_function, is_function_kind}
use Rattle.widget_meaning.specs.PrototypeNatives.{function_to_string, give_made}
use Rattle.js_image.specs.Image.{function_in}
use Rattle.js_image.specs.Held.{IsFine, is_held}
use Rattle.js_image.specs.Callees.{IsCallee}
use Rattle.js_image.specs.declared.outcome.Callee.{Callee}
use Rattle.js_image.specs.declared.outcome.Callee.TheVariants as callee
use Rattle.native_common.specs.Receivers.{IsReceiver, is_plain_call, receiver}

false_true : false ≡ true → ⊥
false_true e = cc

-- natives among the globals, and those of `Math`, ignore their receiver; one of each is named, and `_` are all others
pub global_alone : (n : GlobalNative) (this : Option Value) (vs : List Value) (d : ℕ) (s : State) → global_native n this vs d s ≡ global_native n None vs d s
global_alone BooleanOf this vs d s = refl
global_alone _ this vs d s = refl

pub math_alone : (n : MathNative) (this : Option Value) (vs : List Value) (d : ℕ) (s : State) → math_native n this vs d s ≡ math_native n None vs d s
math_alone Abs this vs d s = refl
math_alone _ this vs d s = refl

module _ (w : ℕ) (cells : List PlainCell) where
  -- a reference as receiver is no text
  pub ref_no_text : (i : ℕ) (s : State) (k : List ℕ → Plan) → on_text (receiver w cells (value.Ref i)) s k ≡ throw meaning.E3 s
  ref_no_text i s k = by (nat_eq i global) (visible_at w cells i)
    where
      by : (a b : Bool) → on_text (if a then None else Some (meant (if b then store.Own (own_count w cells i) else store.Other i))) s k ≡ throw meaning.E3 s
      by true b = refl
      by false true = refl
      by false false = refl

  -- any receiver that is no text
  pub no_text : (v : StoreValue) → ((t : List ℕ) → v ≡ value.Text t → ⊥) → (s : State) (k : List ℕ → Plan) → on_text (receiver w cells v) s k ≡ throw meaning.E3 s
  no_text value.Undefined h s k = refl
  no_text value.Null h s k = refl
  no_text (value.Bool b) h s k = refl
  no_text (value.Num n) h s k = number n
    where
      number : (m : Number) → on_text (receiver w cells (value.Num m)) s k ≡ throw meaning.E3 s
      number numbers.NaN = refl
      number (numbers.Whole z) = refl
  no_text (value.Text t) h s k = absurd (h t refl)
  no_text (value.Ref i) h s k = ref_no_text i s k

  -- a reference that is not that of a plain call is an object
  pub on_ref : (i : ℕ) → nat_eq i global ≡ false → (s : State) (k : Value → Plan) (p : Plan) → ((v : Value) → k v ≡ p) → on_object (receiver w cells (value.Ref i)) s k ≡ p
  on_ref i e s k p h = ap (λ a. on_object (if a then None else Some (seen w cells (value.Ref i))) s k) e ∙ by (visible_at w cells i)
    where
      by : (b : Bool) → on_object (Some (meant (if b then store.Own (own_count w cells i) else store.Other i))) s k ≡ p
      by true = h (meaning.Own (own_count w cells i))
      by false = h (meant (store.Other i))

  -- any object that is none of a plain call
  pub on_object_is : (v : StoreValue) → is_plain_call v ≡ false → meaning.is_object (seen w cells v) ≡ true → (s : State) (k : Value → Plan) (p : Plan) → ((x : Value) → k x ≡ p) → on_object (receiver w cells v) s k ≡ p
  on_object_is value.Undefined e o s k p h = absurd (false_true o)
  on_object_is value.Null e o s k p h = absurd (false_true o)
  on_object_is (value.Bool b) e o s k p h = absurd (false_true o)
  on_object_is (value.Num numbers.NaN) e o s k p h = absurd (false_true o)
  on_object_is (value.Num (numbers.Whole z)) e o s k p h = absurd (false_true o)
  on_object_is (value.Text t) e o s k p h = absurd (false_true o)
  on_object_is (value.Ref i) e o s k p h = on_ref i e s k p h

  -- what is passed and is none of a plain call is what the widget may hold
  pub fine_receiver : (v : StoreValue) → is_plain_call v ≡ false → IsReceiver w cells v → IsFine w cells v
  fine_receiver value.Undefined e h = tt
  fine_receiver value.Null e h = tt
  fine_receiver (value.Bool b) e h = tt
  fine_receiver (value.Num n) e h = tt
  fine_receiver (value.Text t) e h = tt
  fine_receiver (value.Ref i) e h = (h.0, ap (λ b. b || is_held w cells i) (sym e) ∙ h.1)

  -- a receiver that is none of a plain call
  there : (v : StoreValue) → is_plain_call v ≡ false → receiver w cells v ≡ Some (seen w cells v)
  there value.Undefined e = refl
  there value.Null e = refl
  there (value.Bool b) e = refl
  there (value.Num n) e = refl
  there (value.Text t) e = refl
  there (value.Ref i) e = ap (λ b. if b then None else Some (seen w cells (value.Ref i))) e

  callable : (fs : List Forest) (c : Callee) (s : State) (x : Value) → ((c ≡ callee.Nothing) → ⊥) → IsCallee fs w cells c s x → is_function s x ≡ true
  callable fs (callee.Function p) s x nay h = by x h
    where
      by : (y : Value) → kind_at s y ≡ Some (Function (function_in fs p.code p.fun p.declared) (option_map (scope_number w cells) p.scope)) → is_function s y ≡ true
      by (meaning.Own n) h = ap is_function_kind h
      by (meaning.Host (host.Native n)) h = refl
      by y h = ap is_function_kind h
  callable fs (callee.Native n) s x nay h = ap (is_function s) h
  callable fs callee.Nothing s x nay h = absurd (nay refl)

  -- the text of what can be called
  pub called : (v : StoreValue) (fs : List Forest) (c : Callee) (s : State) → is_plain_call v ≡ false → ((c ≡ callee.Nothing) → ⊥) → IsCallee fs w cells c s (seen w cells v) → function_to_string (receiver w cells v) s ≡ give_made (codes "[function]") s
  called v fs c s e not h =
      ap (λ o. function_to_string o s) (there v e)
      ∙ ap (λ b. if b then give_made (codes "[function]") s else throw meaning.E3 s) (callable fs c s (seen w cells v) not h)

-- a text as receiver is given
pub text_given : (w : ℕ) (s : Cells) (v : StoreValue) (t u : List ℕ) → v ≡ value.Text t → u ≡ t → Ends w s s (λ d r. on_text (receiver w s.cells v) r (λ x. give (meaning.Text x) r)) (native.Value (value.Text u))
text_given w s v t u is same =
    ends_here w s (λ d r. on_text (receiver w s.cells v) r (λ x. give (meaning.Text x) r)) (native.Value (value.Text u))
    (λ fs r node d. ap (λ (x : StoreValue). on_text (receiver w s.cells x) (image fs r w s) (λ x. give (meaning.Text x) (image fs r w s))) is ∙ ap (λ (x : List ℕ). give (meaning.Text x) (image fs r w s)) (sym same)) tt
