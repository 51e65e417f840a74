use Rattle.std.proofs.Common.{◌≡◌, take}
use Rattle.store_cells.specs.First.{placed_values}
use Rattle.store_table.proofs.scopes.placed_pairs.Given as goal

abbrev pub invariant-loop-name : goal.invariant-loop-name
invariant-loop-name l = l.pairs.items ≡ placed_values (take l.name-index l.names.items) l.args
