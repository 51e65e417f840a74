-- What callers see of a tree.
use Rattle.js_tree.specs.declared.tree.Tree.{Tree}
use Rattle.js_tree.specs.Plain.{Stmts}
use Rattle.js_tree.specs.Forest.{Forest, stmts_at}
use Rattle.js_tree.specs.Arena.{entries, forest}

-- the plain trees of all nodes
abbrev pub trees : Tree → Forest
trees t = forest (entries t.names.items t.births.items t.exprs.items t.stmts.items t.funs.items)

-- the plain program
abbrev pub program_of : Tree → Stmts
program_of t = stmts_at (trees t) t.program.items
