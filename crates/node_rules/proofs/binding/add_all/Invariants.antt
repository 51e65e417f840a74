use Rattle.std.proofs.Common.{◌≡◌, ◌++◌, take}
use Rattle.node_rules.proofs.binding.add_all.Given as goal

abbrev pub invariant-list : goal.invariant-list
invariant-list l = l.names.items ≡ l.fn.names.items ++ take l.name-index l.list
