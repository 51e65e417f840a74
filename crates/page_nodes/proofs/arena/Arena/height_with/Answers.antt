use Rattle.std.proofs.Common.{arith}
use Rattle.page_nodes.specs.Arenas.{nodes_in}
use Rattle.page_nodes.proofs.Upward.{below_parent}
use Rattle.page_nodes.proofs.Walk.{larger}
use Rattle.page_nodes.proofs.arena.Arena.height_with.Goals as goal

pub returns-then-is_child : goal.returns-then-is_child
returns-then-is_child c =
    let up = c.is_child.ensures c.if-is_child.true in
    omega (arith, (below_parent (nodes_in c.args.self.now) c.args.self.now.sound c.args.node up.0 (up.2)).lower, c.requires.last up.0 (up.1))

pub returns : goal.returns
returns c = omega (arith, c.max.ensures, larger c.args.most c.height.result, c.height.ensures)
