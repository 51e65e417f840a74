use Rattle.std.proofs.Common.{get_or}
use Rattle.page_tree.specs.Pages.{nodes}
use Rattle.page_tree.specs.Documents.{is_loose}
use Rattle.query_walks.specs.Walks.{takes}
use Rattle.query_walks.proofs.Downward.{loose_more, itself}
use Rattle.query_walks.proofs.Members.{node_at}
use Rattle.query_walks.proofs.order.walk_trees.Goals as goal

pub walk_loose-requires-clause-top : goal.walk_loose-requires-clause-top
walk_loose-requires-clause-top c = node_at c.args.page.now c.args.tops.now c.each.top-index 0 c.requires.tops c.each-test.true

pub each-preserved : goal.each-preserved
each-preserved c = loose_more (nodes c.args.page.now) (takes (nodes c.args.page.now) c.args.wanted.now) (is_loose (nodes c.args.page.now) c.root_of-root.result c.args.owner) c.args.tops.now c.each.top-index (get_or c.args.tops.now c.each.top-index 0) c.each.list.items c.walk_loose.new.list.items _ c.each-test.true (itself c.args.tops.now c.each.top-index c.each-test.true) c.in_ok-walk_loose.ensures c.each.invariant
