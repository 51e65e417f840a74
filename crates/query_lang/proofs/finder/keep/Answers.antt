use Rattle.std.proofs.Common.{get_or}
use Rattle.page_tree.specs.Pages.{nodes}
use Rattle.query_walks.specs.Nodes.{passes}
use Rattle.query_walks.proofs.Downward.{ones_more, itself}
use Rattle.query_walks.proofs.Members.{node_at}
use Rattle.query_lang.proofs.finder.keep.Goals as goal

pub keep_one-requires : goal.keep_one-requires
keep_one-requires c = node_at c.args.page.now c.args.list.now c.each.node-index 0 c.requires c.each-test.true

pub each-preserved : goal.each-preserved
each-preserved c = ones_more (passes (nodes c.args.page.now) c.args.focus c.args.by.now) c.args.list.now c.each.node-index (get_or c.args.list.now c.each.node-index 0) c.each.kept.items c.keep_one.new.kept.items _ c.each-test.true (itself c.args.list.now c.each.node-index c.each-test.true) c.in_ok-keep_one.ensures c.each.invariant
