use Rattle.std.proofs.Common.{sym, ap, subst, ◌∙◌}
use Rattle.js_tree.specs.Trees.{trees}
use Rattle.js_tree.specs.Forest.{AreStmtParts, IsExpr, expr_at, plain_stmt, stmt_at}
use Rattle.js_tree.specs.Plain.{stmt_names, stmt_place}
use Rattle.js_tree.specs.declared.nodes.Stmt.{Stmt as Node}
use Rattle.js_flow.specs.Parts.{last_of}
use Rattle.js_flow.proofs.Listing.{listed}
use Rattle.js_direct.proofs.looping.last_in.Goals as goal

pub returns-in-For : goal.returns-in-For
returns-in-For c =
    let f = trees c.args.tree.now in
    let s = stmt_at f c.args.id in
    let ids = c.in-For.list.items in
    let parts = subst (λ (q : Node). AreStmtParts f q) c.in-For.is c.requires.parts in
    let same = sym (ap last_of c.requires.node) ∙ ap (λ q. last_of (plain_stmt f q (stmt_place s) (stmt_names s))) c.in-For.is ∙ c.lists_agree.ensures.exprs f ids in
    listed (expr_at f) (IsExpr f) ids c.args.n (last_of s) same parts.2 c.expression_in.result c.expression_in.ensures.value c.expression_in.ensures.room
