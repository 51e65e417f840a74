use Rattle.std.proofs.Common.{sym, ◌∙◌}
use Rattle.page_tree.specs.Pages.{nodes, root}
use Rattle.page_tree.proofs.Refusals.{all_inside, some_within}
use Rattle.page_tree.proofs.page.Page.are_inside.Goals as goal

pub returns-then-is_in_any : goal.returns-then-is_in_any
returns-then-is_in_any c = some_within (nodes c.args.self.now) (root c.args.self.now) c.args.target c.args.news.now (sym c.is_in_any.ensures ∙ c.if-is_in_any.true)

pub returns : goal.returns
returns c = all_inside (nodes c.args.self.now) (root c.args.self.now) c.args.target c.args.news.now _ _ c.owner.ensures (sym c.is_in_any.ensures ∙ c.if-is_in_any.false) c.are_own.ensures
