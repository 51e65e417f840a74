use Rattle.std.proofs.Common.{◌≡◌, ◌-◌, length}
use Rattle.store_cells.specs.Numbered.{numbered_along}
use Rattle.store_table.proofs.Climb.{along_in}
use Rattle.store_table.proofs.table.found_on.Given as goal

abbrev pub invariant-loop-k : goal.invariant-loop-k
invariant-loop-k l = along_in l.cells l.n (length l.cells - l._k) l.at ≡ numbered_along l.cells l.fn.from l.n
