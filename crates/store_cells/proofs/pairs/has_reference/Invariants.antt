use Rattle.std.proofs.Common.{◌≡◌, ℕ, ◌<◌, false}
use Rattle.store_cells.specs.Holes.{is_reference_below}
use Rattle.store_cells.proofs.Live.{Passes}
use Rattle.store_cells.proofs.pairs.has_reference.Given as goal

abbrev pub invariant-loop-place : goal.invariant-loop-place
invariant-loop-place l = (k : ℕ) → k < l.place → Passes (is_reference_below l.names l.n) l.table.entries k ≡ false
