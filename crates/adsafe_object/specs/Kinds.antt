-- What a value of the store is, by its cell.
use Rattle.std.specs.Prelude.{ℕ, Bool, true, false, List, Option, None, Some, ◌&&◌, if◌then◌else◌, slice_get}
use Rattle.std.specs.Option.{option_map_or}
use Rattle.store_cells.specs.declared.kind.CellKind.{CellKind}
use Rattle.store_cells.specs.declared.kind.CellKind.TheVariants as kind
use Rattle.store_cells.specs.declared.value.Value.{Value}
use Rattle.store_cells.specs.declared.value.Value.TheVariants as value
use Rattle.store_cells.specs.Cells.{PlainCell, is_array, kind_of}
use Rattle.object_store.specs.Owned.{is_of}

-- whether a value refers to an Array
abbrev pub is_array_in : List PlainCell → Value → Bool
is_array_in cells (value.Ref i) = option_map_or (λ c. is_array c.form) (slice_get cells i) false
is_array_in cells _ = false

-- whether a kind is that of Arrays
abbrev pub is_array_kind : CellKind → Bool
is_array_kind kind.Array = true
is_array_kind _ = false

-- whether a cell of a kind may be a prototype of what `create` makes
abbrev pub is_base_kind : CellKind → Bool
is_base_kind kind.Object = true
is_base_kind kind.Array = true
is_base_kind _ = false

-- whether a cell is an Object or an Array of the widget
abbrev pub is_base : ℕ → PlainCell → Bool
is_base w c = is_of w c.owner && is_base_kind (kind_of c.form)

-- the cell to which a value refers, where that is an Object or an Array of the widget
abbrev pub base_in : ℕ → List PlainCell → Value → Option ℕ
base_in w cells (value.Ref i) = if option_map_or (is_base w) (slice_get cells i) false then Some i else None
base_in w cells _ = None
