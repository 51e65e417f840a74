use Rattle.page_tree.specs.Pages.{nodes}
use Rattle.event_loop.proofs.Ways.{parent_in_page}
use Rattle.event_loop.proofs.delivery.parent_within.Goals as goal

pub returns-else-node-root-clause-is_in : goal.returns-else-node-root-clause-is_in
returns-else-node-root-clause-is_in c = parent_in_page (nodes c.args.page.now) c.links_agree.ensures.upward _ c.parent.result c.parent.ensures
