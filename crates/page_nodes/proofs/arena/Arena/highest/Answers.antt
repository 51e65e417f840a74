use Rattle.std.proofs.Common.{◌+◌, arith, get_or, refl, ap, ◌∙◌, max, drop}
use Rattle.page_nodes.specs.Arenas.{nodes_in}
use Rattle.page_nodes.specs.Entries.{tree}
use Rattle.page_nodes.specs.Moves.{highest}
use Rattle.plain_tree.specs.Trees.{height}
use Rattle.page_nodes.proofs.Walk.{highest_all, highest_step, last_low}
use Rattle.page_nodes.proofs.arena.Arena.highest.Goals as goal

pub each-preserved : goal.each-preserved
each-preserved c =
    let k = nodes_in c.args.self.now in
    let n = get_or c.args.nodes.now c.each.node-index 0 in
    record {
      most = ap (λ m. max m (highest k (drop (c.each.node-index + 1) c.args.nodes.now))) c.height_with-most.ensures ∙ highest_step k c.args.nodes.now c.each.node-index c.each.most (height (tree k n)) (highest k c.args.nodes.now) c.each-test.true refl c.each.invariant.most;
      last = λ p e. last_low k n p c.height_with-most.result e (omega (arith, c.height_with-most.ensures));
    }

pub returns : goal.returns
returns c = highest_all (nodes_in c.args.self.now) c.args.nodes.now c.each.node-index c.each.most c.each-test.false c.each.invariant.most
