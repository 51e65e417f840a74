use Rattle.pair_table.proofs.Places.{none_differ}
use Rattle.pair_table.proofs.few.FewPairs.new.Goals as goal

pub invariant_of-result : goal.invariant_of-result
invariant_of-result g c = none_differ c.new.result.items c.new.ensures.items
