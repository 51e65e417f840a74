use Rattle.std.proofs.Common.{◌∙◌, ◌+◌, ◌∷◌, [], ap, arith, length, length-append}
use Rattle.plain_tree.specs.Trees.{beside}
use Rattle.plain_tree.specs.Plains.{unplaced, unplaced_all}
use Rattle.page_nodes.specs.Arenas.{nodes_in}
use Rattle.page_nodes.proofs.Lists.{ok_equal}
use Rattle.page_nodes.proofs.Walk.{child_listed, child_in, child_lower}
use Rattle.page_nodes.proofs.Plains.{taken_at, taken_step, taken_done}
use Rattle.page_nodes.proofs.arena.Arena.+plain_of.Goals as goal

pub plain_of-requires : goal.plain_of-requires
plain_of-requires t c =
    let l = child_listed _ _ c.each.child-index c.each.invariant.items c.each-test.true in
    (omega (arith, c.decreases, child_lower _ c.args.self.now.sound _ _ l), child_in _ c.args.self.now.sound _ _ l)

pub each-init : goal.each-init
each-init t c =
    let e = c.deref-child-items.ensures.value ∙ c.children_of-children.ensures in
    record {
      items = e;
      count = ap length c.new-plains.ensures.items;
      bound = omega arith;
      same = ap (λ l. beside (unplaced_all l) (taken_at (nodes_in c.args.self.now) c.args.ids c.deref-child-items.result.now)) c.new-plains.ensures.items ∙ ap (taken_at (nodes_in c.args.self.now) c.args.ids) e;
    }

pub each-preserved : goal.each-preserved
each-preserved t c = record {
  items = c.each.invariant.items;
  count = ap length c.in_ok-push.ensures.items ∙ length-append c.each.plains.items (c.in_ok-plain.plain ∷ []) ∙ ap (λ n. n + 1) c.each.invariant.count;
  bound = omega (arith, c.each-test.true);
  same = taken_step (nodes_in c.args.self.now) c.args.ids c.each.plains.items _ c.in_ok-plain.plain c.deref-child-items.result.now c.each.child-index _ c.each-test.true c.in_ok-push.ensures.items c.in_ok-plain.ensures c.each.invariant.same;
}

pub returns : goal.returns
returns t c = ok_equal c.plain_with.result unplaced _ _ (taken_done (nodes_in c.args.self.now) c.args.self.now.sound c.args.ids c.args.node _ c.each.plains.items c.deref-child-items.result.now c.each.child-index c.each-test.false c.content_of.ensures c.each.invariant.same) c.plain_with.ensures
