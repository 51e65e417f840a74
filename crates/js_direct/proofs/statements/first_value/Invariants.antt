use Rattle.std.proofs.Common.{◌≡◌, drop, length}
use Rattle.js_tree.specs.Trees.{trees}
use Rattle.js_tree.specs.Forest.{stmt_at}
use Rattle.widget_meaning.specs.OwnState.{State}
use Rattle.widget_meaning.specs.Plan as plan
use Rattle.widget_meaning.specs.Statements.{declarations}
use Rattle.js_flow.specs.Parts.{decls_of}
use Rattle.js_direct.proofs.statements.first_value.Given as goal

-- those that were passed over have no first value
abbrev pub invariant-each : goal.invariant-each
invariant-each l =
    (p : plan.Place) (s : State) → declarations (drop l.from (decls_of (stmt_at (trees l.tree) l.id))) p s ≡ declarations (drop l.at (decls_of (stmt_at (trees l.tree) l.id))) p s

abbrev pub decreases-each : goal.decreases-each
decreases-each l = length (drop l.at (decls_of (stmt_at (trees l.tree) l.id)))
