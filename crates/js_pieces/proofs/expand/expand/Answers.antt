use Rattle.std.proofs.Common.{subst}
use Rattle.std.specs.Prelude.{OnOk}
use Rattle.js_tree.specs.Trees.{trees}
use Rattle.js_pieces.specs.Costs.{stmt_cost}
use Rattle.js_pieces.specs.Tidy.{stmt_tokens}
use Rattle.js_pieces.specs.Todo.{Pushes}
use Rattle.js_pieces.proofs.expand.expand.Goals as goal

pub returns-in-Stmt : goal.returns-in-Stmt
unfolding stmt_tokens stmt_cost
returns-in-Stmt c =
    let f = trees c.args.tree.now in
    rw c.in-Stmt.is (subst (λ s. OnOk c.expand_stmt.result (Pushes f (stmt_tokens s) (stmt_cost s) c.args.work.now.items c.expand_stmt.new.work.items)) c.stmt.ensures.same (c.expand_stmt.ensures f c.stmt.ensures.parts))
