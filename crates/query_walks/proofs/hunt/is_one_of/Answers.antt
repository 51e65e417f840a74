use Rattle.std.proofs.Common.{arith}
use Rattle.query_walks.proofs.Members.{node_at}
use Rattle.query_walks.proofs.hunt.is_one_of.Goals as goal

pub owner-requires : goal.owner-requires
owner-requires c = node_at c.args.page.now c.args.list.now 0 0 c.requires (omega (arith, c.in-len1.len_at_least))
