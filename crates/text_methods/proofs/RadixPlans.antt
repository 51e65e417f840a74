-- The plans of `toString` of numbers and truth values.
use Rattle.std.proofs.Common.{◌≡◌, ℕ, List, Bool, true, false, Some, None, ℤ, pos, refl, sym, ap, ◌∙◌, nat_eq, if◌then◌else◌}
use Rattle.store_cells.specs.declared.value.Value.{Value as StoreValue}
use Rattle.store_cells.specs.declared.value.Value.TheVariants as value
use Rattle.store_cells.specs.declared.value.Number.{Number}
use Rattle.store_cells.specs.declared.value.Number.TheVariants as numbers
use Rattle.store_cells.specs.Cells.{PlainCell, own_count}
use Rattle.store_cells.specs.Host.{global}
use Rattle.object_store.specs.Owned as store
use Rattle.object_store.specs.Owned.{visible_at}
use Rattle.widget_meaning.specs.Values as meaning
use Rattle.widget_meaning.specs.Values.{Value, is_object}
use Rattle.widget_meaning.specs.OwnState.{State}
use Rattle.widget_meaning.specs.Costs.{give, make_text, throw, want}
use Rattle.widget_meaning.specs.PrototypeNatives.{boolean_to_string, give_made, in_radix, is_radix, number_text, number_to_string}
use Rattle.js_image.specs.Image.{meant}
use Rattle.js_values.specs.Operands.{plain}
use Rattle.native_common.specs.Numbers.{optional_number}
use Rattle.native_common.specs.Receivers.{receiver}
use Rattle.plain_natives.proofs.Exits.{optional, wants_one}

-- a radix that is within its bounds
pub radix_given : (v radix : Value) (s : State) (r : ℤ) (n : ℕ) (t : List ℕ) → false ≡ is_object radix → Some r ≡ optional_number (pos 10) radix → is_radix r ≡ true → pos n ≡ r → t ≡ number_text v (pos n) → in_radix v radix s ≡ make_text t s (give (meaning.Text t))
radix_given v radix s r n t prim read good same is =
    wants_one radix s _ prim
    ∙ optional (pos 10) radix 0 s (λ z. want meaning.E7 (is_radix z) s (give_made (number_text v z) s)) r read
    ∙ ap (λ b. if b then give_made (number_text v r) s else throw meaning.E7 s) good
    ∙ ap (λ (us : List ℕ). give_made us s) (ap (number_text v) (sym same) ∙ sym is)

-- one that is not
pub radix_refused : (v radix : Value) (s : State) (r : ℤ) → false ≡ is_object radix → Some r ≡ optional_number (pos 10) radix → is_radix r ≡ false → in_radix v radix s ≡ throw meaning.E7 s
radix_refused v radix s r prim read bad =
    wants_one radix s _ prim
    ∙ optional (pos 10) radix 0 s (λ z. want meaning.E7 (is_radix z) s (give_made (number_text v z) s)) r read
    ∙ ap (λ b. if b then give_made (number_text v r) s else throw meaning.E7 s) bad

module _ (w : ℕ) (cells : List PlainCell) where
  -- a number as receiver
  pub of_number : (n : Number) (radix : Value) (s : State) → number_to_string (receiver w cells (value.Num n)) radix s ≡ in_radix (plain (value.Num n)) radix s
  of_number numbers.NaN radix s = refl
  of_number (numbers.Whole z) radix s = refl

  -- any that is none
  pub no_number : (v : StoreValue) → ((n : Number) → v ≡ value.Num n → ⊥) → (radix : Value) (s : State) → number_to_string (receiver w cells v) radix s ≡ throw meaning.E3 s
  no_number value.Undefined h radix s = refl
  no_number value.Null h radix s = refl
  no_number (value.Bool b) h radix s = refl
  no_number (value.Num n) h radix s = absurd (h n refl)
  no_number (value.Text t) h radix s = refl
  no_number (value.Ref i) h radix s = by (nat_eq i global) (visible_at w cells i)
    where
      by : (a b : Bool) → number_to_string (if a then None else Some (meant (if b then store.Own (own_count w cells i) else store.Other i))) radix s ≡ throw meaning.E3 s
      by true b = refl
      by false true = refl
      by false false = refl

  -- any that is no truth value
  pub no_truth : (v : StoreValue) → ((b : Bool) → v ≡ value.Bool b → ⊥) → (s : State) → boolean_to_string (receiver w cells v) s ≡ throw meaning.E3 s
  no_truth value.Undefined h s = refl
  no_truth value.Null h s = refl
  no_truth (value.Bool b) h s = absurd (h b refl)
  no_truth (value.Num numbers.NaN) h s = refl
  no_truth (value.Num (numbers.Whole z)) h s = refl
  no_truth (value.Text t) h s = refl
  no_truth (value.Ref i) h s = by (nat_eq i global) (visible_at w cells i)
    where
      by : (a b : Bool) → boolean_to_string (if a then None else Some (meant (if b then store.Own (own_count w cells i) else store.Other i))) s ≡ throw meaning.E3 s
      by true b = refl
      by false true = refl
      by false false = refl
