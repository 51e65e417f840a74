use Rattle.js_tree.specs.Trees.{trees, program_of}
use Rattle.js_pieces.specs.Tidy.{tidy, spaced}
use Rattle.js_pieces.specs.Todo.{todo, row_cost, AreWork}
use Rattle.js_print.proofs.Fronts.{Goes}
use Rattle.js_print.proofs.print.print_tree.Given as goal

abbrev pub invariant-walk : goal.invariant-walk
invariant-walk l = Goes l.fn.out.items l.out.items (tidy (program_of l.tree)) (spaced l.begun (todo (trees l.tree) l.work.items)) × AreWork (trees l.tree) l.work.items

abbrev pub decreases-walk : goal.decreases-walk
decreases-walk l = row_cost (trees l.tree) l.work.items
