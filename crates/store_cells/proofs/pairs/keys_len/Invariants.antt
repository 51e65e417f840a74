use Rattle.std.proofs.Common.{◌≡◌, ◌≤◌, length}
use Rattle.store_cells.specs.Holes.{listed_names}
use Rattle.store_cells.specs.Numbered.{live}
use Rattle.store_cells.proofs.Live.{before}
use Rattle.store_cells.proofs.pairs.keys_len.Given as goal

abbrev pub invariant-loop-at : goal.invariant-loop-at
invariant-loop-at l = (l.count ≡ length (listed_names l.names l.array (live (before l.at l.table.entries)))) × (l.count ≤ l.at)
