use Rattle.std.proofs.Common.{◌≡◌, ◌++◌, take}
use Rattle.js_tree.specs.Trees.{trees}
use Rattle.node_rules.specs.Hoisting.{fun_texts}
use Rattle.node_rules.proofs.binding.add_funs.Given as goal

abbrev pub invariant-list : goal.invariant-list
invariant-list l = l.names.items ≡ l.fn.names.items ++ fun_texts (trees l.tree) (take l.id-index l.list)
