use Rattle.std.proofs.Common.{◌≡◌, [], take, length}
use Rattle.std.specs.List.{fold}
use Rattle.keyed_names.specs.Interned.{IsTable}
use Rattle.store_cells.specs.Numbered.{Grown, plain}
use Rattle.store_cells.specs.Shape.{Known}
use Rattle.store_cells.specs.Born.{filled_cell, with_pair}
use Rattle.store_table.proofs.table.filled.Given as goal

abbrev pub invariant-loop-name : goal.invariant-loop-name
invariant-loop-name l =
    IsTable l.names
    × Known (length l.names) l.cell.entries
    × Grown l.fn.names l.names
    × (l.cell.head ≡ l.fn.head)
    × (plain l.names l.cell ≡ fold with_pair (filled_cell l.fn.head []) (take l.name-index l.pairs))
