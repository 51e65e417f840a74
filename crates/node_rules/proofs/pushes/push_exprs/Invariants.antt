use Rattle.std.proofs.Common.{◌≡◌, ◌++◌, take}
use Rattle.std.specs.Prelude.{map}
use Rattle.node_rules.specs.Work.{at_depth, expr_ids}
use Rattle.node_rules.proofs.pushes.push_exprs.Given as goal

abbrev pub invariant-ids : goal.invariant-ids
invariant-ids l = l.work.items ≡ l.fn.work.items ++ map (at_depth l.depth) (expr_ids (take l.id-index l.ids))
