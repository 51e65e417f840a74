use Rattle.std.proofs.Common.{◌≡◌, ◌+◌, ◌≤◌, length}
use Rattle.indexmap.specs.IndexMap.{spare}
use Rattle.pair_table.proofs.few.insert_all.Given as goal

abbrev pub invariant-loop-n : goal.invariant-loop-n
invariant-loop-n g l = (l.map.entries ≡ l.yielded) × (spare l.initial.map ≤ spare l.map + length l.yielded)
