use Rattle.std.proofs.Common.{◌≡◌, ◌++◌, take}
use Rattle.node_rules.specs.Hoisting.{decl_texts}
use Rattle.node_rules.proofs.binding.add_decls.Given as goal

abbrev pub invariant-list : goal.invariant-list
invariant-list l = l.names.items ≡ l.fn.names.items ++ decl_texts (take l.decl-index l.list)
