-- Values of the store, as the meaning has them.
use Rattle.std.proofs.Common.{◌≡◌, ℕ, Bool, true, false, List, length, refl, ap, if◌then◌else◌, Option, Some, None}
use Rattle.std.specs.Prelude.{codes}
use Rattle.js_tree.specs.declared.nodes.BinOp.{BinOp}
use Rattle.js_tree.specs.declared.nodes.BinOp.TheVariants as bin
use Rattle.store_cells.specs.declared.value.Value.{Value}
use Rattle.store_cells.specs.declared.value.Value.TheVariants as value
use Rattle.store_cells.specs.declared.value.Number.TheVariants as number
use Rattle.store_cells.specs.Cells.{PlainCell, own_count}
use Rattle.store_cells.specs.Shape.{IsRefWithin}
use Rattle.object_store.specs.Owned as store
use Rattle.object_store.specs.Owned.{visible_at}
use Rattle.widget_meaning.specs.Values as meaning
use Rattle.permitted_table.specs.declared.native.NativeId.{NativeId}
use Rattle.permitted_table.specs.declared.native.HostEntry.TheVariants as host
use Rattle.js_tree.specs.Plain.{Fun}
use Rattle.widget_meaning.specs.OwnState.{Function, State, kind_of}
use Rattle.widget_meaning.specs.Costs.{give}
use Rattle.js_tree.specs.declared.nodes.UnOp.{UnOp}
use Rattle.js_tree.specs.declared.nodes.UnOp.TheVariants as un
use Rattle.widget_meaning.specs.Plan.{Place, Ret, after, and_then}
use Rattle.widget_meaning.specs.Operators as operators
use Rattle.widget_meaning.specs.Expressions.{refer, result, unary_on}
use Rattle.widget_meaning.specs.Calls.{call_to_string, to_primitive}
use Rattle.widget_meaning.specs.Properties.{get, is_function, is_function_kind, read}
use Rattle.js_image.specs.Held.{IsFine}
use Rattle.js_image.specs.Image.{meant, seen}
use Rattle.js_values.specs.Operands.{IsOperand, IsPrimitive, plain}

-- what a widget may hold is in the store
pub fine_within : (w : ℕ) (cells : List PlainCell) (v : Value) → IsFine w cells v → IsRefWithin (length cells) v
fine_within w cells value.Undefined h = tt
fine_within w cells value.Null h = tt
fine_within w cells (value.Bool b) h = tt
fine_within w cells (value.Num n) h = tt
fine_within w cells (value.Text t) h = tt
fine_within w cells (value.Ref i) h = h.0

-- a reference to a property of a cell
pub refer_cell : (w : ℕ) (cells : List PlainCell) (i : ℕ) (x : List ℕ) (s : State) → refer (seen w cells (value.Ref i)) x s ≡ Ret (meaning.Refers (meaning.Property (seen w cells (value.Ref i)) x)) s
refer_cell w cells i x s = by (visible_at w cells i)
  where
    by : (b : Bool) → refer (meant (if b then store.Own (own_count w cells i) else store.Other i)) x s ≡ Ret (meaning.Refers (meaning.Property (meant (if b then store.Own (own_count w cells i) else store.Other i)) x)) s
    by true = refl
    by false = refl

-- a value that has properties is read
pub read_other : (w : ℕ) (cells : List PlainCell) (v : Value) (x : List ℕ) (s : State) → (v ≡ value.Undefined → ⊥) → (v ≡ value.Null → ⊥) → read (seen w cells v) x s ≡ give (get s (seen w cells v) x) s
read_other w cells value.Undefined x s h k = absurd (h refl)
read_other w cells value.Null x s h k = absurd (k refl)
read_other w cells (value.Bool b) x s h k = refl
read_other w cells (value.Num number.NaN) x s h k = refl
read_other w cells (value.Num (number.Whole z)) x s h k = refl
read_other w cells (value.Text t) x s h k = refl
read_other w cells (value.Ref i) x s h k = by (visible_at w cells i)
  where
    by : (b : Bool) → read (meant (if b then store.Own (own_count w cells i) else store.Other i)) x s ≡ give (get s (meant (if b then store.Own (own_count w cells i) else store.Other i)) x) s
    by true = refl
    by false = refl

-- a primitive is converted to itself
pub stays_primitive : (v : meaning.Value) (d : ℕ) (s : State) → meaning.is_object v ≡ false → to_primitive v d s ≡ give v s
stays_primitive v d s h = ap (λ (b : Bool). if b then call_to_string (is_function s (get s v (codes "toString"))) (get s v (codes "toString")) v d s else give v s) h

-- a primitive is an operand of each operator
pub operand_of : (op : BinOp) (v : Value) → IsPrimitive v → IsOperand op v
operand_of bin.Same v h = tt
operand_of bin.NotSame v h = tt
operand_of op v h = h

none_some : {A : Type 0} {a : A} → None ≡ Some a → ⊥
none_some e = cc

-- a value of this kind can be called
pub callable : (s : State) (v : meaning.Value) (f : Fun) (o : Option ℕ) → kind_of s v ≡ Some (Function f o) → is_function s v ≡ true
callable s (meaning.Own n) f o h = ap is_function_kind h
callable s meaning.Undefined f o h = absurd (none_some h)
callable s meaning.Null f o h = absurd (none_some h)
callable s (meaning.Truth b) f o h = absurd (none_some h)
callable s meaning.NaN f o h = absurd (none_some h)
callable s (meaning.Num z) f o h = absurd (none_some h)
callable s (meaning.Text t) f o h = absurd (none_some h)
callable s (meaning.Host e) f o h = absurd (none_some h)

-- so can a native
pub native_callable : (s : State) (v : meaning.Value) (n : NativeId) → v ≡ meaning.Host (host.Native n) → is_function s v ≡ true
native_callable s v n h = ap (is_function s) h

-- a primitive that is no text costs nothing
pub given : (w : ℕ) (cells : List PlainCell) (v : Value) (s : State) → IsPrimitive v → ((t : List ℕ) → v ≡ value.Text t → ⊥) → Ret (meaning.Is (seen w cells v)) s ≡ result (operators.Gives (plain v)) s
given w cells value.Undefined s h k = refl
given w cells value.Null s h k = refl
given w cells (value.Bool b) s h k = refl
given w cells (value.Num number.NaN) s h k = refl
given w cells (value.Num (number.Whole z)) s h k = refl
given w cells (value.Text t) s h k = absurd (k t refl)
given w cells (value.Ref i) s h k = absurd h

-- the prefix operators that convert
pub prefix_other : (op : UnOp) (v : meaning.Value) (p : Place) (s : State) → (op ≡ un.TypeOf → ⊥) → (op ≡ un.Not → ⊥)
    → unary_on op v p s ≡ and_then (to_primitive v p.depth s) (after (λ u t. result (operators.unary op u) t))
prefix_other un.TypeOf v p s h k = absurd (h refl)
prefix_other un.Not v p s h k = absurd (k refl)
prefix_other un.Delete v p s h k = refl
prefix_other un.Void v p s h k = refl
prefix_other un.Plus v p s h k = refl
prefix_other un.Minus v p s h k = refl
prefix_other un.BitNot v p s h k = refl
