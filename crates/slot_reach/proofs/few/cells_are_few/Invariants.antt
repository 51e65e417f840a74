use Rattle.std.proofs.Common.{◌<◌, ◌≤◌, ℕ, filter, length}
use Rattle.store_cells.specs.Cells.{is_visible}
use Rattle.slot_reach.proofs.few.cells_are_few.Given as goal

-- those of the widgets before
abbrev pub invariant-widgets : goal.invariant-widgets
invariant-widgets l = (v : ℕ) → v < l.w → length (filter (is_visible v) l.store.cells) ≤ 524288
