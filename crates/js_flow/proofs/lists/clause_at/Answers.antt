use Rattle.std.proofs.Common.{sym, ap, subst, ◌∙◌}
use Rattle.js_tree.specs.Trees.{trees}
use Rattle.std.specs.Prelude.{option_copied}
use Rattle.js_tree.specs.Lists.{stmt_list}
use Rattle.js_tree.specs.Forest.{AreClauseParts, AreStmtParts, optional_at, plain_stmt, stmt_at, stmts_at}
use Rattle.js_tree.specs.Plain.{stmt_names, stmt_place}
use Rattle.js_tree.specs.declared.nodes.Stmt.{Stmt as Node}
use Rattle.js_flow.specs.Parts.{clauses_of}
use Rattle.js_flow.proofs.Listing.{listed}
use Rattle.js_flow.proofs.lists.clause_at.Goals as goal

pub returns-in-Switch : goal.returns-in-Switch
returns-in-Switch c =
    let f = trees c.args.tree.now in
    let s = stmt_at f c.args.id in
    let ids = c.in-Switch.list.items in
    let parts = subst (λ (q : Node). AreStmtParts f q) c.in-Switch.is c.stmt.ensures.parts in
    let same = sym (ap clauses_of c.stmt.ensures.same) ∙ ap (λ q. clauses_of (plain_stmt f q (stmt_place s) (stmt_names s))) c.in-Switch.is ∙ c.lists_agree.ensures.clauses f ids in
    listed (λ q. (optional_at f q.test, stmt_list (stmts_at f q.body.items))) (AreClauseParts f) ids c.args.n (clauses_of s) same parts.1 (option_copied c.clause_in.result) c.clause_in.ensures.value c.clause_in.ensures.room
