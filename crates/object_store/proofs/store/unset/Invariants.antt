use Rattle.std.proofs.Common.{◌≡◌, take}
use Rattle.store_cells.specs.Born.{unset}
use Rattle.object_store.proofs.store.unset.Given as goal

abbrev pub invariant-loop-name : goal.invariant-loop-name
invariant-loop-name l = l.pairs.items ≡ unset (take l.name-index l.names)
