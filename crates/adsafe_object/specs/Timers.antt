-- The time of a timer, and its function.
use Rattle.std.specs.Prelude.{◌≡◌, ℕ, ◌<◌, ℤ, pos, true, List, Option, None, Some, IfSome, length}
use Rattle.store_cells.specs.Cells.{PlainCell}
use Rattle.object_store.specs.Owned.{visible_at}
use Rattle.widget_meaning.specs.Values.{Value, Undefined, Num}

-- 0 where it is absent; what is no number is none
abbrev pub milliseconds : Value → Option ℤ
milliseconds Undefined = Some (pos 0)
milliseconds (Num z) = Some z
milliseconds _ = None

-- the cell of a timer that is asked for is a visible cell of the widget
abbrev pub AsksOwn : ℕ → List PlainCell → Option (ℕ × ℤ) → Type 0
AsksOwn w cells asked = IfSome asked (λ a. (a.0 < length cells) × (visible_at w cells a.0 ≡ true))
