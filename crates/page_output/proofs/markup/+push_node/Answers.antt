use Rattle.std.proofs.Common.{refl, sym, ap, ◌∙◌, arith}
use Rattle.plain_tree.specs.Trees.{unmarked}
use Rattle.page_nodes.specs.Entries.{at, tree, label_of}
use Rattle.page_nodes.proofs.Walk.{child_in, child_listed, child_lower}
use Rattle.page_tree.specs.Pages.{nodes}
use Rattle.page_output.proofs.Nodes.{nodes_start, nodes_step, node_cut, node_done, node_text, node_unclosed, node_void}
use Rattle.page_output.proofs.Texts.{on_err, prints_none}
use Rattle.page_output.proofs.markup.+push_node.Goals as goal

pub push_node-requires : goal.push_node-requires
push_node-requires t c =
    let k = nodes c.args.page.now in
    let l = child_listed c.children-child-items.result.now (at k c.args.node).children c.each.child-index c.children-child-items.ensures c.each-test.true in
    (omega (arith, c.decreases, child_lower k c.args.page.now.arena.sound c.args.node _ l), child_in k c.args.page.now.arena.sound c.args.node _ l)

pub each-init : goal.each-init
each-init t c = nodes_start (nodes c.args.page.now) _ _ _ refl

pub each-preserved : goal.each-preserved
each-preserved t c = nodes_step (nodes c.args.page.now) c.children-child-items.result.now c.each.child-index _ c.each.out.items _ c.each-test.true c.each.invariant c.in_ok-push_node-in-Element.ensures.ok

pub returns-after-each-clause-ok : goal.returns-after-each-clause-ok
returns-after-each-clause-ok t c = node_done (nodes c.args.page.now) c.push_closing.result c.args.page.now.arena.sound c.args.node _ _ c.args.out.now.items _ c.each.out.items c.push_closing.new.out.items c.children-child-items.result.now c.each.child-index (sym c.content.ensures ∙ ap label_of c.in-Element.is) c.children-child-items.ensures (sym c.is_void.ensures ∙ c.if-is_void.false) c.in_ok-push_node_opening-in-Element.ensures.ok c.each-test.false c.each.invariant c.push_closing.ensures.ok

pub returns-after-each-clause-part : goal.returns-after-each-clause-part
returns-after-each-clause-part t c = node_unclosed (nodes c.args.page.now) c.push_closing.result c.args.page.now.arena.sound c.args.node _ _ c.args.out.now.items _ c.each.out.items c.push_closing.new.out.items c.children-child-items.result.now c.each.child-index (sym c.content.ensures ∙ ap label_of c.in-Element.is) c.children-child-items.ensures (sym c.is_void.ensures ∙ c.if-is_void.false) c.in_ok-push_node_opening-in-Element.ensures.ok c.each-test.false c.each.invariant c.push_closing.ensures.err

pub returns-then-is_void-clause-ok : goal.returns-then-is_void-clause-ok
returns-then-is_void-clause-ok t c = node_void (nodes c.args.page.now) c.args.page.now.arena.sound c.args.node _ _ c.args.out.now.items c.push_node_opening.new.out.items (sym c.content.ensures ∙ ap label_of c.in-Element.is) (sym c.is_void.ensures ∙ c.if-is_void.true) c.in_ok-push_node_opening-in-Element.ensures.ok

pub returns-in-Text-clause-ok : goal.returns-in-Text-clause-ok
returns-in-Text-clause-ok t c = node_text (nodes c.args.page.now) c.push_text.result c.args.page.now.arena.sound c.args.node _ c.args.out.now.items c.push_text.new.out.items (sym c.content.ensures ∙ ap label_of c.in-Text.is) c.push_text.ensures.ok

pub returns-in_err-push_node_opening-in-Element-clause-part : goal.returns-in_err-push_node_opening-in-Element-clause-part
returns-in_err-push_node_opening-in-Element-clause-part t c = on_err _ _ (prints_none (unmarked (tree (nodes c.args.page.now) c.args.node)) c.args.out.now.items c.push_node_opening.new.out.items c.in_err-push_node_opening-in-Element.ensures.err)

pub returns-in_err-push_node-in-Element-clause-part : goal.returns-in_err-push_node-in-Element-clause-part
returns-in_err-push_node-in-Element-clause-part t c = node_cut (nodes c.args.page.now) _ c.args.page.now.arena.sound c.args.node _ _ c.args.out.now.items _ c.each.out.items c.push_node.new.out.items c.children-child-items.result.now c.each.child-index (sym c.content.ensures ∙ ap label_of c.in-Element.is) c.children-child-items.ensures (sym c.is_void.ensures ∙ c.if-is_void.false) c.in_ok-push_node_opening-in-Element.ensures.ok c.each-test.true c.each.invariant c.in_err-push_node-in-Element.ensures.part
