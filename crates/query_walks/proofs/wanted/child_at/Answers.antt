use Rattle.std.proofs.Common.{sym, ◌∙◌}
use Rattle.page_tree.specs.Entries.{at}
use Rattle.page_tree.specs.Pages.{nodes}
use Rattle.query_walks.proofs.Downward.{get_is, child_node}
use Rattle.query_walks.proofs.wanted.child_at.Goals as goal

pub returns-clause-node : goal.returns-clause-node
returns-clause-node c = child_node c.args.page.now c.args.node c.args.place c.in-Some.child c.requires.place (get_is (at (nodes c.args.page.now) c.args.node).children c.args.place c.in-Some.child (sym c.child.ensures ∙ c.in-Some.is))
