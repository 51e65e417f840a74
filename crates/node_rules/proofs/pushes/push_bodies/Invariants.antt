use Rattle.std.proofs.Common.{◌≡◌, ◌++◌, take}
use Rattle.std.specs.Prelude.{map}
use Rattle.node_rules.specs.Work.{at_depth, body_ids}
use Rattle.node_rules.proofs.pushes.push_bodies.Given as goal

abbrev pub invariant-list : goal.invariant-list
invariant-list l = l.work.items ≡ l.fn.work.items ++ map (at_depth l.depth) (body_ids (take l.clause-index l.list))
