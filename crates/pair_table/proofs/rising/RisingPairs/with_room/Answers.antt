use Rattle.pair_table.proofs.Rises.{rising_none}
use Rattle.pair_table.proofs.rising.RisingPairs.with_room.Goals as goal

pub invariant_of-result : goal.invariant_of-result
invariant_of-result g c = rising_none c.in_ok-list.list.items c.in_ok-list.ensures.items
