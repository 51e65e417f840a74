use Rattle.std.proofs.Common.{◌≡◌, ◌++◌, take}
use Rattle.std.specs.Prelude.{map}
use Rattle.node_rules.specs.Work.{at_depth, value_ids}
use Rattle.node_rules.proofs.pushes.push_values.Given as goal

abbrev pub invariant-list : goal.invariant-list
invariant-list l = l.work.items ≡ l.fn.work.items ++ map (at_depth l.depth) (value_ids (take l.id-index l.list))
