use Rattle.std.proofs.Common.{arith, ap, length}
use Rattle.page_nodes.specs.Arenas.{nodes_in}
use Rattle.page_nodes.proofs.Width.{width_small}
use Rattle.page_nodes.proofs.arena.Arena.width.Goals as goal

pub overflow_cast-result : goal.overflow_cast-result
overflow_cast-result c = omega (arith, c.len.ensures, ap length c.children_of.ensures, width_small (nodes_in c.args.self.now) c.args.self.now.sound c.args.node)
