use Rattle.std.proofs.Common.{arith, ap}
use Rattle.plain_tree.specs.Trees.{height}
use Rattle.plain_tree.specs.Plains.{unplaced_all}
use Rattle.page_nodes.proofs.Plains.{height_element, height_child, low_step, low_done}
use Rattle.page_nodes.proofs.copies.+is_low.Goals as goal

pub returns-then-not-is_low : goal.returns-then-not-is_low
returns-then-not-is_low t c = omega (arith, ap (λ l. height (unplaced_all l)) c.deref-child-items.ensures.value, height_element _ _ _ _ _ c.in-Element.is, height_child c.deref-child-items.result.now c.each.child-index c.child-item.result c.each-test.true c.child-item.is, c.if-not-is_low.ensures)

pub each-preserved : goal.each-preserved
each-preserved t c = low_step c.deref-child-items.result.now c.each.child-index c.args.most c.child-item.result c.each-test.true c.child-item.is (omega (arith, c.if-not-is_low.ensures, c.if-most-eq0.false)) c.each.invariant

pub returns-after-each : goal.returns-after-each
returns-after-each t c = omega (arith, ap (λ l. height (unplaced_all l)) c.deref-child-items.ensures.value, height_element _ _ _ _ _ c.in-Element.is, low_done c.deref-child-items.result.now c.each.child-index c.args.most c.each-test.false (omega (arith, c.if-most-eq0.false)) c.each.invariant)
