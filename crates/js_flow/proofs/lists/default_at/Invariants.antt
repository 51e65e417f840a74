use Rattle.std.proofs.Common.{◌≡◌, drop, length}
use Rattle.js_tree.specs.Trees.{trees}
use Rattle.js_tree.specs.Forest.{stmt_at}
use Rattle.widget_meaning.specs.Statements.{from_default}
use Rattle.js_flow.specs.Parts.{clauses_of}
use Rattle.js_flow.proofs.lists.default_at.Given as goal

abbrev pub invariant-loop-clause : goal.invariant-loop-clause
invariant-loop-clause l = from_default (clauses_of (stmt_at (trees l.tree) l.id)) (clauses_of (stmt_at (trees l.tree) l.id)) ≡ from_default (clauses_of (stmt_at (trees l.tree) l.id)) (drop l.n (clauses_of (stmt_at (trees l.tree) l.id)))

abbrev pub decreases-loop-clause : goal.decreases-loop-clause
decreases-loop-clause l = length (drop l.n (clauses_of (stmt_at (trees l.tree) l.id)))
