use Rattle.std.proofs.Common.{sym, ap, ◌∙◌}
use Rattle.js_tree.specs.Trees.{trees}
use Rattle.js_tree.specs.Lists.{stmt_list}
use Rattle.js_tree.specs.Forest.{IsStmt, fun_at, stmt_at}
use Rattle.js_tree.specs.Plain.{Fun}
use Rattle.js_flow.specs.Parts.{body_of}
use Rattle.js_flow.proofs.Listing.{listed}
use Rattle.js_flow.proofs.lists.body_at.Goals as goal

pub returns : goal.returns
returns c =
    let f = trees c.args.tree.now in
    let ids = c.fun.result.now.body.items in
    let same = sym (ap (λ (q : Fun). stmt_list (body_of q)) c.fun.ensures.same) ∙ c.lists_agree.ensures.stmts f ids in
    listed (stmt_at f) (IsStmt f) ids c.args.n (stmt_list (body_of (fun_at f c.args.id))) same c.fun.ensures.parts.0 c.stmt_id.result c.stmt_id.ensures.value c.stmt_id.ensures.room
