use Rattle.std.proofs.Common.{length, take}
use Rattle.store_cells.specs.Shape.{IsArrayOf}
use Rattle.store_table.proofs.bunch.array_of.Given as goal

abbrev pub invariant-loop-at : goal.invariant-loop-at
invariant-loop-at l = IsArrayOf l.fn.names l.fn.head (length l.fn.values) (take l.at l.fn.values) l.cell
