use Rattle.std.proofs.Common.{arith}
use Rattle.plain_tree.specs.Plains.{unplaced}
use Rattle.page_nodes.specs.Arenas.{nodes_in}
use Rattle.page_nodes.proofs.Plains.{height_below}
use Rattle.page_nodes.proofs.Adds.{may_hang, growing_step, growing_done}
use Rattle.page_nodes.proofs.arena.Arena.+add.Goals as goal

pub add-requires : goal.add-requires
add-requires t c =
    let less = height_below c.args.plain.now _ _ _ _ c.deref-child-items.result.now c.each.child-index c.child-item.result c.in-Element.is c.deref-child-items.ensures.value c.each-test.true c.child-item.is in
    (omega (arith, c.decreases, less), omega (arith, c.requires, less))

pub hang-requires-clause-may : goal.hang-requires-clause-may
hang-requires-clause-may t c =
    let less = height_below c.args.plain.now _ _ _ _ c.deref-child-items.result.now c.each.child-index c.child-item.result c.in-Element.is c.deref-child-items.ensures.value c.each-test.true c.child-item.is in
    may_hang (nodes_in c.args.self.now) (nodes_in c.each.self) (nodes_in c.add.new.self) _ c.args.owner _ c.each.child-index (unplaced c.args.plain.now) c.child-item.result c.deref-child-items.result.now c.args.self.now.sound c.add.new.self.sound c.each.invariant (omega (arith, c.requires, less)) c.in_ok-node-in-Element.ensures

pub each-preserved : goal.each-preserved
each-preserved t c =
    let less = height_below c.args.plain.now _ _ _ _ c.deref-child-items.result.now c.each.child-index c.child-item.result c.in-Element.is c.deref-child-items.ensures.value c.each-test.true c.child-item.is in
    growing_step (nodes_in c.args.self.now) (nodes_in c.each.self) (nodes_in c.add.new.self) (nodes_in c.hang.new.self) _ c.args.owner _ c.each.child-index (unplaced c.args.plain.now) c.child-item.result c.deref-child-items.result.now c.args.self.now.sound c.add.new.self.sound c.each.invariant c.each-test.true c.child-item.is (omega (arith, c.requires, less)) c.in_ok-node-in-Element.ensures c.in_ok-hang-in-Element.ensures

pub returns-after-each : goal.returns-after-each
returns-after-each t c = growing_done (nodes_in c.args.self.now) (nodes_in c.each.self) _ c.args.owner c.each.child-index (unplaced c.args.plain.now) c.deref-child-items.result.now c.each.invariant c.each-test.false
