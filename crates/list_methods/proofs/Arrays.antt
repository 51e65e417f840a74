-- Arrays of a widget as receivers, and as the store grows.
use Rattle.std.proofs.Common.{◌≡◌, ℕ, List, [], refl, sym, ap, ◌∙◌, subst, Some, None, Bool, true, false, if◌then◌else◌}
use Rattle.std.specs.Prelude.{nat_eq, ◌||◌}
use Rattle.js_tree.specs.Forest.{Forest}
use Rattle.store_cells.specs.declared.value.Value.{Value as StoreValue}
use Rattle.store_cells.specs.declared.value.Value.TheVariants as value
use Rattle.store_cells.specs.declared.value.Number.{Number}
use Rattle.store_cells.specs.declared.value.Number.TheVariants as number
use Rattle.store_cells.specs.Cells.{Cells, own_count}
use Rattle.store_cells.specs.Host.{global}
use Rattle.object_store.specs.Grows.{Grows}
use Rattle.object_store.specs.Owned as store
use Rattle.object_store.specs.Owned.{visible_at}
use Rattle.widget_meaning.specs.Values.{Value, Undefined, Null, NaN, Num, Text, Own, E3}
use Rattle.widget_meaning.specs.OwnState.{State, array_length, kind_of}
use Rattle.widget_meaning.specs.Plan.{Plan}
use Rattle.widget_meaning.specs.Costs.{throw}
use Rattle.widget_meaning.specs.NativeForms.{on_array}
use Rattle.js_image.specs.Held.{IsHeld, is_held}
use Rattle.js_image.specs.Image.{Rest, image, meant, no_rest, seen}
use Rattle.js_image.specs.Reads.{cell_in}
use Rattle.js_image.proofs.Grown.{held_stays, seen_stays}
use Rattle.native_common.specs.Receivers.{IsReceiver, receiver}
use Rattle.list_methods.specs.declared.array.OwnArray.{OwnArray}
use Rattle.list_methods.specs.Arrays.{IsArray, number}

none_some : {A : Type 0} {a : A} → None ≡ Some a → ⊥
none_some h = cc

some_same : {A : Type 0} (a b : A) → Some a ≡ Some b → a ≡ b
some_same a b e = cc

-- what has a length is an object of the widget
module _ (w : ℕ) (s : Cells) (i len : ℕ) where
  abbrev shown : Bool → Value
  shown b = meant (if b then store.Own (own_count w s.cells i) else store.Other i)

  own_of : Some len ≡ array_length (kind_of (image [] no_rest w s) (seen w s.cells (value.Ref i))) → seen w s.cells (value.Ref i) ≡ Own (own_count w s.cells i)
  own_of h = by (visible_at w s.cells i) refl
    where
      by : (b : Bool) → visible_at w s.cells i ≡ b → seen w s.cells (value.Ref i) ≡ Own (own_count w s.cells i)
      by true e = ap shown e
      by false e = absurd (none_some (sym (h ∙ ap (λ b. array_length (kind_of (image [] no_rest w s) (shown b))) e)))

  pub is_array : IsHeld w s.cells i → ((fs : List Forest) (r : Rest) → Some len ≡ array_length (kind_of (image fs r w s) (seen w s.cells (value.Ref i)))) → IsArray w s (record { cell = i; len = len })
  is_array held h = record {
    held = held;
    own = own_of (h [] no_rest);
    len = λ fs r. ap (λ v. array_length (kind_of (image fs r w s) v)) (sym (own_of (h [] no_rest))) ∙ sym (h fs r);
  }

pub primitive_received : (w : ℕ) (s : Cells) (st : State) (v : StoreValue) (k : ℕ → ℕ → Plan) → cell_in v ≡ None → on_array (receiver w s.cells v) st k ≡ throw E3 st
primitive_received w s st value.Undefined k h = refl
primitive_received w s st value.Null k h = refl
primitive_received w s st (value.Bool b) k h = refl
primitive_received w s st (value.Num n) k h = by n
  where
    by : (n : Number) → on_array (receiver w s.cells (value.Num n)) st k ≡ throw E3 st
    by number.NaN = refl
    by (number.Whole z) = refl
primitive_received w s st (value.Text t) k h = refl
primitive_received w s st (value.Ref i) k h = absurd (none_some (sym h))

pub cell_held : (w : ℕ) (s : Cells) (i : ℕ) → nat_eq i global ≡ false → IsReceiver w s.cells (value.Ref i) → IsHeld w s.cells i
cell_held w s i e h = (h.0, ap (λ b. b || is_held w s.cells i) (sym e) ∙ h.1)

-- what refers to a cell
pub referred : (w : ℕ) (s : Cells) (v : StoreValue) (i : ℕ) → v ≡ value.Ref i → IsReceiver w s.cells v → IsReceiver w s.cells (value.Ref i)
referred w s v i e h = subst (IsReceiver w s.cells) e h

-- as the store grows
module _ (w : ℕ) (old new : Cells) (a : OwnArray) (h : IsArray w old a) (g : Grows w old.cells new.cells) where
  pub number_stays : number w new a ≡ number w old a
  number_stays = g.count a.cell h.held.0

  pub own_stays : seen w new.cells (value.Ref a.cell) ≡ Own (number w old a)
  own_stays = seen_stays w old.cells new.cells g (value.Ref a.cell) h.held ∙ h.own

  pub array_after : (len : ℕ) → ((fs : List Forest) (r : Rest) → array_length (kind_of (image fs r w new) (Own (number w old a))) ≡ Some len) → IsArray w new (record { cell = a.cell; len = len })
  array_after len is = record {
    held = held_stays w old.cells new.cells g a.cell h.held;
    own = own_stays ∙ ap Own (sym number_stays);
    len = λ fs r. ap (λ n. array_length (kind_of (image fs r w new) (Own n))) number_stays ∙ is fs r;
  }

-- the length of what a cell refers to, by its number
pub length_seen : (w : ℕ) (s : Cells) (a : OwnArray) → IsArray w s a → (fs : List Forest) (r : Rest) → array_length (kind_of (image fs r w s) (seen w s.cells (value.Ref a.cell))) ≡ Some a.len
length_seen w s a h fs r = ap (λ v. array_length (kind_of (image fs r w s) v)) h.own ∙ h.len fs r
