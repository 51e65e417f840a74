use Rattle.std.proofs.Common.{◌≡◌, ◌++◌, take}
use Rattle.std.specs.Prelude.{map}
use Rattle.node_rules.specs.Work.{at_depth, fun_ids}
use Rattle.node_rules.proofs.pushes.push_funs.Given as goal

abbrev pub invariant-ids : goal.invariant-ids
invariant-ids l = l.work.items ≡ l.fn.work.items ++ map (at_depth l.depth) (fun_ids (take l.id-index l.ids))
