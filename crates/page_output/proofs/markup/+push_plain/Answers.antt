use Rattle.std.proofs.Common.{refl, sym, ◌∙◌}
use Rattle.plain_tree.specs.Plains.{unplaced}
use Rattle.page_output.proofs.PlainTrees.{element_done, element_unclosed, element_cut, children_start, children_step}
use Rattle.page_output.proofs.Texts.{on_err, prints_none}
use Rattle.page_output.proofs.markup.+push_plain.Goals as goal

pub each-init : goal.each-init
each-init t c = children_start _ _ _ refl

pub each-preserved : goal.each-preserved
each-preserved t c = children_step c.deref-child-items.result.now c.each.child-index c.child-item.result _ c.each.out.items _ c.each-test.true c.child-item.is c.each.invariant c.in_ok-push_plain-in-Element.ensures.ok

pub returns-after-each-clause-ok : goal.returns-after-each-clause-ok
returns-after-each-clause-ok t c = element_done c.push_closing.result c.args.plain.now _ _ _ _ c.args.out.now.items _ c.each.out.items c.push_closing.new.out.items c.deref-child-items.result.now c.each.child-index c.in-Element.is c.deref-child-items.ensures.value (sym c.is_void.ensures ∙ c.if-is_void.false) c.in_ok-push_opening-in-Element.ensures.ok c.each-test.false c.each.invariant c.push_closing.ensures.ok

pub returns-after-each-clause-part : goal.returns-after-each-clause-part
returns-after-each-clause-part t c = element_unclosed c.push_closing.result c.args.plain.now _ _ _ _ c.args.out.now.items _ c.each.out.items c.push_closing.new.out.items c.deref-child-items.result.now c.each.child-index c.in-Element.is c.deref-child-items.ensures.value (sym c.is_void.ensures ∙ c.if-is_void.false) c.in_ok-push_opening-in-Element.ensures.ok c.each-test.false c.each.invariant c.push_closing.ensures.err

pub returns-in_err-push_opening-in-Element-clause-part : goal.returns-in_err-push_opening-in-Element-clause-part
returns-in_err-push_opening-in-Element-clause-part t c = on_err _ _ (prints_none (unplaced c.args.plain.now) c.args.out.now.items c.push_opening.new.out.items c.in_err-push_opening-in-Element.ensures.err)

pub returns-in_err-push_plain-in-Element-clause-part : goal.returns-in_err-push_plain-in-Element-clause-part
returns-in_err-push_plain-in-Element-clause-part t c = element_cut _ c.args.plain.now _ _ _ _ c.args.out.now.items _ c.each.out.items c.push_plain.new.out.items c.deref-child-items.result.now c.each.child-index c.child-item.result c.in-Element.is c.deref-child-items.ensures.value (sym c.is_void.ensures ∙ c.if-is_void.false) c.in_ok-push_opening-in-Element.ensures.ok c.each-test.true c.child-item.is c.each.invariant c.in_err-push_plain-in-Element.ensures.part
