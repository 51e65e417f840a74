-- Primitives as a widget has them.
use Rattle.std.proofs.Common.{◌≡◌, ℕ, List, refl}
use Rattle.store_cells.specs.declared.value.Value.{Value}
use Rattle.store_cells.specs.declared.value.Value.TheVariants as value
use Rattle.store_cells.specs.declared.value.Number.TheVariants as number
use Rattle.store_cells.specs.Cells.{PlainCell}
use Rattle.js_image.specs.Image.{seen}
use Rattle.js_image.specs.Held.{IsFine}
use Rattle.js_values.specs.Operands.{IsPrimitive, plain}

pub seen_plain : (w : ℕ) (cells : List PlainCell) (v : Value) → IsPrimitive v → seen w cells v ≡ plain v
seen_plain w cells (value.Ref i) h = absurd h
seen_plain w cells (value.Num number.NaN) h = refl
seen_plain w cells (value.Num (number.Whole z)) h = refl
seen_plain w cells v h = refl

pub plain_fine : (w : ℕ) (cells : List PlainCell) (v : Value) → IsPrimitive v → IsFine w cells v
plain_fine w cells (value.Ref i) h = absurd h
plain_fine w cells v h = tt
