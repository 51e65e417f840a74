use Rattle.std.proofs.Common.{sym, ◌∙◌}
use Rattle.js_tree.specs.Trees.{trees}
use Rattle.js_tree.specs.Forest.{plain_form}
use Rattle.js_pieces.proofs.Steps.{enclosed_step, bare_step}
use Rattle.js_pieces.proofs.expressions.expand_expr.Goals as goal

pub returns-then-is_enclosed : goal.returns-then-is_enclosed
returns-then-is_enclosed c =
    let f = trees c.args.tree.now in
    enclosed_step c.push_all-then-is_enclosed.result f c.args.first c.args.level _ _ _ (plain_form f c.expr-node.result.now) c.expr-node.ensures.same _ _ _ _ (sym (c.is_enclosed.ensures f) ∙ c.if-is_enclosed.true) (c.in_ok-push_all.ensures f (tt, tt)) (c.in_ok-expand_form.ensures f c.expr-node.ensures.parts) (c.push_all-then-is_enclosed.ensures f (tt, tt))

pub returns : goal.returns
returns c =
    let f = trees c.args.tree.now in
    bare_step c.expand_form-2.result f c.args.first c.args.level _ _ _ (plain_form f c.expr-node.result.now) c.expr-node.ensures.same _ _ (sym (c.is_enclosed.ensures f) ∙ c.if-is_enclosed.false) (c.expand_form-2.ensures f c.expr-node.ensures.parts)
