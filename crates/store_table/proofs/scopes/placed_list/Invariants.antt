use Rattle.std.proofs.Common.{◌≡◌, take, length}
use Rattle.keyed_names.specs.Interned.{IsTable}
use Rattle.store_cells.specs.First.{placed_values}
use Rattle.store_cells.specs.Numbered.{Grown, named}
use Rattle.store_cells.specs.Shape.{Known}
use Rattle.store_table.proofs.scopes.placed_list.Given as goal

abbrev pub invariant-loop-name : goal.invariant-loop-name
invariant-loop-name l =
    IsTable l.table
    × Grown l.fn.table l.table
    × Known (length l.table) l.list.items
    × (named l.table l.list.items ≡ placed_values (take l.name-index l.names.items) l.args)
