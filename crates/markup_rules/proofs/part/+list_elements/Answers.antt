use Rattle.markup_rules.proofs.Nodes.{element_done}
use Rattle.std.proofs.Common.{refl}
use Rattle.markup_rules.proofs.part.+list_elements.Goals as goal

pub returns-after-each : goal.returns-after-each
returns-after-each t c = element_done c.args.plain.now _ _ _ _ _ c.args.found.now.items _ c.each.found.items c.deref-child-items.result.now c.each.child-index c.in-Element.is refl refl c.deref.ensures.value c.deref-in-Element.ensures.value c.deref-child-items.ensures.value c.in_ok-push.ensures.items c.each-test.false c.each.invariant
