use Rattle.query_walks.proofs.Members.{node_at}
use Rattle.query_walks.proofs.hunt.collect_all_next.Goals as goal

pub collect_next-requires : goal.collect_next-requires
collect_next-requires c = node_at c.args.page.now c.args.parents.now c.each.parent-index 0 c.requires c.each-test.true
