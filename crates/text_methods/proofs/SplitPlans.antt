-- The plan of `split` by a text.
use Rattle.std.proofs.Common.{◌≡◌, ℕ, ◌+◌, ◌<◌, ◌≤◌, ◌^◌, ◌-◌, min, List, [], ◌∷◌, Bool, true, false, refl, length, sum_by, arith, if◌then◌else◌}
use Rattle.store_cells.specs.declared.value.Value.{Value as StoreValue}
use Rattle.store_cells.specs.declared.value.Value.TheVariants as value
use Rattle.store_cells.specs.declared.value.Number.TheVariants as number
use Rattle.store_cells.specs.Cells.{PlainCell, own_count}
use Rattle.object_store.specs.Owned as store
use Rattle.object_store.specs.Owned.{visible_at}
use Rattle.widget_meaning.specs.Values.{Value, to_text}
use Rattle.widget_meaning.specs.OwnState.{State}
use Rattle.widget_meaning.specs.Plan.{Plan, charge}
use Rattle.widget_meaning.specs.NativeForms.{give_texts, want_primitives}
use Rattle.widget_meaning.specs.TextNatives.{pieces, split}
use Rattle.js_image.specs.Image.{meant, seen}
use Rattle.native_common.specs.Numbers.{counted}

-- the plan for what is not absent
abbrev pub by_text : List ℕ → Value → State → Plan
by_text t x s = want_primitives (x ∷ []) s (charge (length t + (length (to_text x) + sum_by length (pieces (to_text x) t))) s (give_texts (pieces (to_text x) t) s))

pub split_is : (w : ℕ) (cells : List PlainCell) (t : List ℕ) (v : StoreValue) (s : State) → (v ≡ value.Undefined → ⊥) → split t (seen w cells v) s ≡ by_text t (seen w cells v) s
split_is w cells t value.Undefined s h = absurd (h refl)
split_is w cells t value.Null s h = refl
split_is w cells t (value.Bool b) s h = refl
split_is w cells t (value.Num number.NaN) s h = refl
split_is w cells t (value.Num (number.Whole z)) s h = refl
split_is w cells t (value.Text u) s h = refl
split_is w cells t (value.Ref i) s h = by (visible_at w cells i)
  where
    by : (b : Bool) → split t (meant (if b then store.Own (own_count w cells i) else store.Other i)) s ≡ by_text t (meant (if b then store.Own (own_count w cells i) else store.Other i)) s
    by true = refl
    by false = refl

-- what is asked: the units of the text, of the other text and of the pieces
pub asked_is : (t x s read made asked : ℕ) → read ≡ min (t + x) (2 ^ 64 - 1) → made ≡ counted s → asked ≡ min (read + made) (2 ^ 64 - 1) → asked ≡ counted (t + (x + s))
asked_is t x s read made asked a b c = omega (arith, a, b, c)

-- what fuel pays fits it
pub few_units : (n s left rest made : ℕ) → left ≡ n + rest → left < 2 ^ 32 → s ≤ n → made ≡ counted s → (made ≡ s) × (made < 2 ^ 32)
few_units n s left rest made a b c d = (omega (arith, a, b, c, d), omega (arith, a, b, c, d))
