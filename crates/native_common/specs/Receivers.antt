-- The receiver of a native.
use Rattle.std.specs.Prelude.{◌≡◌, ℕ, ◌<◌, List, Option, None, Some, Bool, true, false, nat_eq, ◌||◌, length, if◌then◌else◌}
use Rattle.store_cells.specs.declared.value.Value.{Value as StoreValue}
use Rattle.store_cells.specs.declared.value.Value.TheVariants as value
use Rattle.store_cells.specs.Cells.{PlainCell}
use Rattle.store_cells.specs.Host.{global}
use Rattle.widget_meaning.specs.Values.{Value}
use Rattle.js_image.specs.Held.{is_held}
use Rattle.js_image.specs.Image.{seen}

-- whether what is passed as a receiver is the Global cell
abbrev pub is_plain_call : StoreValue → Bool
is_plain_call (value.Ref i) = nat_eq i global
is_plain_call v = false

module _ (w : ℕ) (cells : List PlainCell) where
  -- a plain call has none, for which the Global cell is passed
  abbrev pub receiver : StoreValue → Option Value
  receiver (value.Ref i) = if nat_eq i global then None else Some (seen w cells (value.Ref i))
  receiver v = Some (seen w cells v)

  -- what is passed as a receiver: what the widget may hold, or the Global cell
  abbrev pub IsReceiver : StoreValue → Type 0
  IsReceiver (value.Ref i) = (i < length cells) × ((nat_eq i global || is_held w cells i) ≡ true)
  IsReceiver v = Unit {0}
