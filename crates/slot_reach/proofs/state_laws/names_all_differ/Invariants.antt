use Rattle.std.proofs.Common.{◌≡◌, ◌<◌, ℕ, Some, map, slice_get}
use Rattle.std.specs.List.{IsDistinct}
use Rattle.std.specs.Str.{bytes_eq}
use Rattle.store_cells.specs.Cells.{PlainCell}
use Rattle.slot_reach.proofs.state_laws.names_all_differ.Given as goal

-- those of the cells before
abbrev pub invariant-cells : goal.invariant-cells
invariant-cells l = (i : ℕ) (c : PlainCell) → i < l.cell → slice_get l.store.cells i ≡ Some c → IsDistinct bytes_eq (map (λ p. p.0) c.pairs)
