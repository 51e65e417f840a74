-- What a value of the store is, as JSON has it.
use Rattle.std.specs.Prelude.{◌≡◌, ℕ, Bool, true, false, List, [], Option, None, Some, ◌&&◌, is_some, if◌then◌else◌, slice_get}
use Rattle.std.specs.Option.{option_map_or}
use Rattle.store_cells.specs.declared.kind.CellKind.{CellKind}
use Rattle.store_cells.specs.declared.kind.CellKind.TheVariants as kind
use Rattle.store_cells.specs.declared.value.Value.{Value}
use Rattle.store_cells.specs.declared.value.Value.TheVariants as value
use Rattle.store_cells.specs.Cells.{PlainCell, kind_of, widget_of}

-- the pairs of the cell at a place
abbrev pub pairs_at : List PlainCell → ℕ → List (List ℕ × Value)
pairs_at cells i = option_map_or (λ c. c.pairs) (slice_get cells i) []

-- whether a kind is that of Objects
abbrev pub is_object_kind : CellKind → Bool
is_object_kind kind.Object = true
is_object_kind _ = false

-- whether a cell is an Object of a widget
abbrev pub is_object : PlainCell → Bool
is_object c = is_some (widget_of c.owner) && is_object_kind (kind_of c.form)

-- at this place stands an Object of a widget
abbrev pub IsObjectAt : List PlainCell → ℕ → Type 0
IsObjectAt cells i = option_map_or is_object (slice_get cells i) false ≡ true

-- the cell to which a value refers, where that is an Object of a widget
abbrev pub object_in : List PlainCell → Value → Option ℕ
object_in cells (value.Ref i) = if option_map_or is_object (slice_get cells i) false then Some i else None
object_in cells _ = None
