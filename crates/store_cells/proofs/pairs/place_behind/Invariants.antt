use Rattle.std.proofs.Common.{◌≡◌, drop, slice_get}
use Rattle.store_cells.specs.Numbered.{live}
use Rattle.store_cells.proofs.pairs.place_behind.Given as goal

abbrev pub invariant-loop-place : goal.invariant-loop-place
invariant-loop-place l = slice_get (live (drop l.place l.table.entries)) l.left ≡ slice_get (live l.table.entries) l.at
