use Rattle.std.proofs.Common.{◌≤◌, length, drop}
use Rattle.js_tree.specs.Forest.{Forest}
use Rattle.js_pieces.specs.Todo.{row, row_cost, AreWork, Pushes}
use Rattle.js_pieces.proofs.work.push_all.Given as goal

abbrev pub invariant-pieces : goal.invariant-pieces
invariant-pieces l = (l.left ≤ length l.pieces) × ((f : Forest) → AreWork f l.pieces → Pushes f (row f (drop l.left l.pieces)) (row_cost f (drop l.left l.pieces)) l.initial.work.items l.work.items)

abbrev pub decreases-pieces : goal.decreases-pieces
decreases-pieces l = l.left
