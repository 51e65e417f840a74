use Rattle.std.proofs.Common.{◌∙◌, ap}
use Rattle.std.specs.Vec.{vec_items}
use Rattle.pair_table.proofs.Places.{none_differ}
use Rattle.pair_table.proofs.few.FewPairs.pour.Goals as goal

pub invariant_of-self : goal.invariant_of-self
invariant_of-self g c = none_differ (vec_items c.replace-list.new.dest) (ap vec_items c.replace-list.ensures.after ∙ c.new.ensures.items)
