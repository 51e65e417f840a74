use Rattle.query_walks.proofs.Members.{node_at}
use Rattle.query_walks.proofs.hunt.all_below.Goals as goal

pub collect_below-requires-clause-node : goal.collect_below-requires-clause-node
collect_below-requires-clause-node c = node_at c.args.page.now c.args.starts.now c.each.start-index 0 c.requires.nodes c.each-test.true
