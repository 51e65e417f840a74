use Rattle.std.proofs.Common.{◌≡◌}
use Rattle.store_cells.specs.Holes.{listed_names}
use Rattle.store_cells.specs.Numbered.{live}
use Rattle.store_cells.proofs.Live.{before}
use Rattle.store_cells.proofs.pairs.keys.Given as goal

abbrev pub invariant-loop-at : goal.invariant-loop-at
invariant-loop-at l = l.keys.items ≡ listed_names l.names l.array (live (before l.at l.table.entries))
