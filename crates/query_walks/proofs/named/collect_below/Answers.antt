use Rattle.std.proofs.Common.{get_or}
use Rattle.page_tree.specs.Pages.{nodes}
use Rattle.query_walks.specs.Walks.{below_any}
use Rattle.query_walks.proofs.Downward.{itself, ones_more}
use Rattle.query_walks.proofs.Members.{node_at}
use Rattle.query_walks.proofs.named.collect_below.Goals as goal

pub take_below-requires : goal.take_below-requires
take_below-requires c = node_at c.args.page.now c.args.list.now c.each.node-index 0 c.requires c.each-test.true

pub each-preserved : goal.each-preserved
each-preserved c = ones_more (below_any (nodes c.args.page.now) c.args.starts.now) c.args.list.now c.each.node-index (get_or c.args.list.now c.each.node-index 0) c.each.found.items c.take_below.new.found.items _ c.each-test.true (itself c.args.list.now c.each.node-index c.each-test.true) c.in_ok-take_below.ensures c.each.invariant
