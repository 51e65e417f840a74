use Rattle.std.proofs.Common.{drop, length, ◌≡◌}
use Rattle.js_tree.specs.Forest.{stmt_at}
use Rattle.widget_meaning.specs.OwnState.{State}
use Rattle.js_flow.specs.Parts.{clauses_of}
use Rattle.js_tree.specs.Trees.{trees}
use Rattle.widget_meaning.specs.Statements.{choose_case}
use Rattle.widget_meaning.specs.Values as meaning
use Rattle.widget_meaning.specs.Plan as plan
use Rattle.js_direct.proofs.choosing.next_test.Given as goal

-- those that were passed over have no test
abbrev pub invariant-each : goal.invariant-each
invariant-each l =
    (v : meaning.Value) (p : plan.Place) (s : State) → choose_case v (clauses_of (stmt_at (trees l.tree) l.id)) (drop l.from (clauses_of (stmt_at (trees l.tree) l.id))) p s
    ≡ choose_case v (clauses_of (stmt_at (trees l.tree) l.id)) (drop l.at (clauses_of (stmt_at (trees l.tree) l.id))) p s

abbrev pub decreases-each : goal.decreases-each
decreases-each l = length (drop l.at (clauses_of (stmt_at (trees l.tree) l.id)))
