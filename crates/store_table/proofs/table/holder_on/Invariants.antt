use Rattle.std.proofs.Common.{◌≡◌, ◌-◌, length, Some}
use Rattle.store_cells.specs.Lists.{climb}
use Rattle.store_cells.specs.Numbered.{numbered_has}
use Rattle.store_table.proofs.table.holder_on.Given as goal

abbrev pub invariant-loop-k : goal.invariant-loop-k
invariant-loop-k l = climb (numbered_has l.n) (λ c. c.head.up) (length l.cells - l._k) l.cells l.at ≡ climb (numbered_has l.n) (λ c. c.head.up) (length l.cells) l.cells (Some l.fn.from)
