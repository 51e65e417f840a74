-- Primitives that are no texts.
use Rattle.std.proofs.Common.{◌≡◌, ℕ, List, refl}
use Rattle.store_cells.specs.declared.value.Value.{Value}
use Rattle.store_cells.specs.declared.value.Value.TheVariants as value
use Rattle.store_cells.specs.declared.value.Number.TheVariants as number
use Rattle.store_cells.specs.Cells.{PlainCell}
use Rattle.js_image.specs.Image.{seen}
use Rattle.js_image.specs.Held.{IsFine}
use Rattle.js_values.specs.Operands.{plain}
use Rattle.native_common.specs.Numbers.{IsSmall}

-- each widget sees them alike
pub small_seen : (w : ℕ) (cells : List PlainCell) (v : Value) → IsSmall v → seen w cells v ≡ plain v
small_seen w cells value.Undefined h = refl
small_seen w cells value.Null h = refl
small_seen w cells (value.Bool b) h = refl
small_seen w cells (value.Num number.NaN) h = refl
small_seen w cells (value.Num (number.Whole z)) h = refl
small_seen w cells (value.Text t) h = absurd h
small_seen w cells (value.Ref i) h = absurd h

-- and may hold them
pub small_fine : (w : ℕ) (cells : List PlainCell) (v : Value) → IsSmall v → IsFine w cells v
small_fine w cells value.Undefined h = tt
small_fine w cells value.Null h = tt
small_fine w cells (value.Bool b) h = tt
small_fine w cells (value.Num n) h = tt
small_fine w cells (value.Text t) h = absurd h
small_fine w cells (value.Ref i) h = absurd h
