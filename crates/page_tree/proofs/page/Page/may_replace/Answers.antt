use Rattle.std.proofs.Common.{sym, ◌∙◌}
use Rattle.page_tree.specs.Pages.{nodes, root}
use Rattle.page_nodes.proofs.Upward.{parent_in}
use Rattle.page_tree.proofs.Refusals.{handed_on, refuses_parent, not_any}
use Rattle.page_tree.proofs.page.Page.may_replace.Goals as goal

pub may_append-requires-clause-target : goal.may_append-requires-clause-target
may_append-requires-clause-target c = parent_in _ c.args.self.now.arena.sound c.args.node _ (sym c.parent.ensures ∙ c.in-Some.is)

pub returns-in_err-may_append : goal.returns-in_err-may_append
returns-in_err-may_append c = handed_on _ _ c.from_residual.result _ c.from_residual.ensures.1 (refuses_parent (nodes c.args.self.now) (root c.args.self.now) _ c.args.node c.args.news.now _ (sym c.parent.ensures ∙ c.in-Some.is) (sym c.is_root.ensures ∙ c.if-is_root.false) (not_any c.args.node c.args.news.now _ c.contains.ensures.value c.if-contains.false) c.in_err-may_append.ensures)
