-- Names of cells.
use Rattle.std.specs.Prelude.{◌≡◌, ℕ, List, Some, map, slice_get}
use Rattle.std.specs.List.{IsDistinct}
use Rattle.std.specs.Str.{bytes_eq}
use Rattle.store_cells.specs.Cells.{PlainCell}

-- the names of each cell differ
abbrev pub AllDiffer : List PlainCell → Type 0
AllDiffer cells = (i : ℕ) (c : PlainCell) → slice_get cells i ≡ Some c → IsDistinct bytes_eq (map (λ p. p.0) c.pairs)
