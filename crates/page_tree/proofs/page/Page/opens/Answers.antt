use Rattle.std.proofs.Common.{arith, ap, inr, sym, ◌∙◌}
use Rattle.tree_ops.specs.Labels.{is_leaf}
use Rattle.page_tree.specs.Pages.{nodes}
use Rattle.page_nodes.proofs.Walk.{limit_is}
use Rattle.page_tree.proofs.Refusals.{depth_low, opened}
use Rattle.page_tree.proofs.page.Page.opens.Goals as goal

pub overflow_add-depth : goal.overflow_add-depth
overflow_add-depth c = omega (arith, depth_low (nodes c.args.self.now) c.args.target _ c.depth.ensures, c.requires.height, limit_is)

pub returns-then-depth-height-gt-LIMIT : goal.returns-then-depth-height-gt-LIMIT
returns-then-depth-height-gt-LIMIT c = inr (c.depth.result, c.depth.ensures, omega (arith, limit_is, c.if-depth-height-gt-LIMIT.true))

pub returns : goal.returns
returns c = opened (nodes c.args.self.now) c.args.target c.depth.result c.args.height (ap is_leaf (sym c.content.ensures) ∙ sym c.is_leaf.ensures ∙ c.if-is_leaf.false) c.depth.ensures (omega (arith, limit_is, c.if-depth-height-gt-LIMIT.false))
