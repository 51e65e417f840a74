use Rattle.std.proofs.Common.{ap, sym, subst, ◌∙◌, drop, ◌≤◌, ◌+◌, ◌-◌, ℕ}
use Rattle.js_tree.specs.Trees.{trees}
use Rattle.js_tree.specs.Forest.{IsStmt, optional_at, stmt_at}
use Rattle.widget_meaning.specs.Statements.{bodies}
use Rattle.js_flow.specs.Parts.{clauses_of}
use Rattle.js_flow.proofs.Listing.{all_at, clause_first, clause_past, not_within}
use Rattle.js_flow.proofs.lists.clauses_at.Goals as goal

pub returns-in-Some-stmt_id : goal.returns-in-Some-stmt_id
returns-in-Some-stmt_id c =
    let f = trees c.args.tree.now in
    let ids = c.in-Some.clause.now.body.items in
    let here = sym c.stmt_id.ensures.value ∙ c.in-Some-stmt_id.is in (
      all_at (IsStmt f) ids c.in-Some.ensures.0.1 c.loop-clause.k c.in-Some-stmt_id.i here,
      c.requires,
      c.loop-clause.invariant ∙ clause_first f ids _ _ (optional_at f c.in-Some.clause.now.test) c.loop-clause.k c.in-Some-stmt_id.i c.in-Some.ensures.2 (c.lists_agree.ensures.stmts f ids) here,
    )

pub overflow_sub-k : goal.overflow_sub-k
overflow_sub-k c =
    subst (λ (n : ℕ). n ≤ c.loop-clause.k) (sym c.count-len.ensures) (not_within c.in-Some.clause.now.body.items c.loop-clause.k (sym c.stmt_id.ensures.value ∙ c.in_default-stmt_id.is))

pub loop-clause-preserved : goal.loop-clause-preserved
loop-clause-preserved c =
    let f = trees c.args.tree.now in
    let ids = c.in-Some.clause.now.body.items in
    let none = sym c.stmt_id.ensures.value ∙ c.in_default-stmt_id.is in
    c.loop-clause.invariant
    ∙ clause_past f ids _ _ (optional_at f c.in-Some.clause.now.test) c.loop-clause.k c.in-Some.ensures.2 (c.lists_agree.ensures.stmts f ids) none
    ∙ ap (λ n. drop (c.loop-clause.k - n) (bodies (drop (c.loop-clause.n + 1) (clauses_of (stmt_at f c.args.id))))) (sym c.count-len.ensures)
