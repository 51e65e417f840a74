use Rattle.std.proofs.Common.{◌∙◌, ap}
use Rattle.std.specs.Vec.{vec_items}
use Rattle.pair_table.proofs.Places.{none_differ}
use Rattle.pair_table.proofs.few.FewPairs.take_list.Goals as goal

pub invariant_of-self : goal.invariant_of-self
invariant_of-self g c = none_differ (vec_items c.replace.new.dest) (ap vec_items c.replace.ensures.after ∙ c.new.ensures.items)
