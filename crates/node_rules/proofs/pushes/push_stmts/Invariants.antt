use Rattle.std.proofs.Common.{◌≡◌, ◌++◌, take}
use Rattle.std.specs.Prelude.{map}
use Rattle.node_rules.specs.Work.{at_depth, stmt_ids}
use Rattle.node_rules.proofs.pushes.push_stmts.Given as goal

abbrev pub invariant-ids : goal.invariant-ids
invariant-ids l = l.work.items ≡ l.fn.work.items ++ map (at_depth l.depth) (stmt_ids (take l.id-index l.ids))
