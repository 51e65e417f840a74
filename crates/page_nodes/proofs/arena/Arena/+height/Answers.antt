use Rattle.std.proofs.Common.{◌∙◌, arith, ap}
use Rattle.page_nodes.specs.Entries.{at}
use Rattle.page_nodes.specs.Arenas.{nodes_in}
use Rattle.page_nodes.specs.Moves.{highest}
use Rattle.page_nodes.proofs.Shows.{tree_low}
use Rattle.page_nodes.proofs.Walk.{child_listed, child_in, child_lower, highest_step, highest_done, larger, limit_is}
use Rattle.page_nodes.proofs.arena.Arena.+height.Goals as goal

pub height-requires : goal.height-requires
height-requires t c =
    let l = child_listed _ _ c.each.child-index c.each.invariant.items c.each-test.true in
    (omega (arith, c.decreases, child_lower _ c.args.self.now.sound _ _ l), child_in _ c.args.self.now.sound _ _ l)

pub each-init : goal.each-init
each-init t c =
    let e = c.deref-child-items.ensures.value ∙ c.children_of-children.ensures in
    record { items = e; most = omega (arith, ap (highest (nodes_in c.args.self.now)) e) }

pub each-preserved : goal.each-preserved
each-preserved t c = record {
  items = c.each.invariant.items;
  most = let e = highest_step (nodes_in c.args.self.now) c.deref-child-items.result.now c.each.child-index c.each.most c.height.result (highest (nodes_in c.args.self.now) (at (nodes_in c.args.self.now) c.args.node).children) c.each-test.true c.height.ensures c.each.invariant.most in omega (arith, e, c.max-most.ensures, larger c.each.most c.height.result);
}

pub overflow_add-result : goal.overflow_add-result
overflow_add-result t c =
    let e = highest_done _ c.args.self.now.sound c.args.node _ _ _ c.each-test.false c.each.invariant.most in
    omega (arith, e, limit_is, tree_low (nodes_in c.args.self.now) c.args.node)

pub returns : goal.returns
returns t c = highest_done _ c.args.self.now.sound _ _ _ _ c.each-test.false c.each.invariant.most
