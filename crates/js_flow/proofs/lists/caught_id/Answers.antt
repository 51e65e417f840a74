use Rattle.std.proofs.Common.{ap, subst, ◌∙◌}
use Rattle.std.specs.Prelude.{ℕ, List, Option}
use Rattle.std.specs.declared.vec.Vec.{Vec}
use Rattle.std.specs.declared.alloc.Global.{Global}
use Rattle.js_tree.specs.declared.nodes.StmtId.{StmtId}
use Rattle.js_tree.specs.Lists.{stmt_list}
use Rattle.js_tree.specs.Forest.{AreCatch, IsStmt, catch_at, stmt_at}
use Rattle.js_flow.specs.Parts.{catch_body}
use Rattle.js_flow.proofs.Listing.{listed}
use Rattle.js_flow.proofs.lists.caught_id.Goals as goal

pub returns-in-Some : goal.returns-in-Some
returns-in-Some c = λ f h.
    let ids = c.in-Some.part.1.items in
    let same = ap (λ o. stmt_list (catch_body (catch_at f o))) c.in-Some.is ∙ c.lists_agree.ensures.stmts f ids in
    listed (stmt_at f) (IsStmt f) ids c.args.n (stmt_list (catch_body (catch_at f c.args.caught.now))) same (subst (λ (q : Option (List ℕ × Vec StmtId Global)). AreCatch f q) c.in-Some.is h) c.stmt_id.result c.stmt_id.ensures.value c.stmt_id.ensures.room
