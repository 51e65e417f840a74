use Rattle.query_walks.proofs.Members.{node_at}
use Rattle.query_walks.proofs.hunt.all_children.Goals as goal

pub collect_children-requires : goal.collect_children-requires
collect_children-requires c = node_at c.args.page.now c.args.starts.now c.each.start-index 0 c.requires c.each-test.true
