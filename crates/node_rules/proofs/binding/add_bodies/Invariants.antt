use Rattle.std.proofs.Common.{◌≡◌, ◌++◌, take}
use Rattle.node_rules.specs.Hoisting.{clause_bodies}
use Rattle.node_rules.proofs.binding.add_bodies.Given as goal

abbrev pub invariant-list : goal.invariant-list
invariant-list l = l.left.items ≡ l.fn.left.items ++ clause_bodies (take l.clause-index l.list)
