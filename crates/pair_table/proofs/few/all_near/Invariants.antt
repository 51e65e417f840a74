use Rattle.std.specs.Map.{keys_of}
use Rattle.pair_table.specs.Rising.{AreNear}
use Rattle.pair_table.proofs.few.all_near.Given as goal

abbrev pub invariant-loop-at : goal.invariant-loop-at
invariant-loop-at g l = AreNear l.at (keys_of l.fn.list)
