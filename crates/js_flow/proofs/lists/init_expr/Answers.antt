use Rattle.std.proofs.Common.{ap, subst, ◌∙◌}
use Rattle.js_tree.specs.Forest.{AreInit, IsExpr, expr_at, init_at}
use Rattle.js_tree.specs.declared.nodes.ForInit.{ForInit as Init}
use Rattle.js_flow.specs.Parts.{init_exprs}
use Rattle.js_flow.proofs.Listing.{listed}
use Rattle.js_flow.proofs.lists.init_expr.Goals as goal

pub returns-in-List : goal.returns-in-List
returns-in-List c = λ f h.
    let ids = c.in-List.list.items in
    let same = ap (λ i. init_exprs (init_at f i)) c.in-List.is ∙ c.lists_agree.ensures.exprs f ids in
    listed (expr_at f) (IsExpr f) ids c.args.n (init_exprs (init_at f c.args.init.now)) same (subst (λ (q : Init). AreInit f q) c.in-List.is h) c.expr_id.result c.expr_id.ensures.value c.expr_id.ensures.room
