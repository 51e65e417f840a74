use Rattle.std.proofs.Common.{arith}
use Rattle.page_nodes.specs.Arenas.{nodes_in}
use Rattle.page_nodes.proofs.Indexing.{index_whole}
use Rattle.page_nodes.proofs.index.enter_from.Goals as goal

pub returns : goal.returns
returns c = index_whole (nodes_in c.args.arena.now) c.each.ids c.each.node c.each.invariant.high (omega arith) c.each.invariant.index
