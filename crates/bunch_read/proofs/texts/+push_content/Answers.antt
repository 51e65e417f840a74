use Rattle.std.proofs.Common.{◌++◌, get_or, take, ap, sym, ◌∙◌, arith, append_assoc}
use Rattle.widget_meaning.specs.PageForms.{texts_of}
use Rattle.bunch_read.proofs.Lists.{element_in}
use Rattle.bunch_read.proofs.Content.{content_whole, lower, own_tree, texts, texts_more}
use Rattle.bunch_read.proofs.texts.+push_content.Goals as goal

pub push_content-requires : goal.push_content-requires
push_content-requires t c =
    let items = c.children-child-items.result.now in (
      omega (arith, c.decreases, lower c.args.page.now c.args.w c.args.node c.requires items c.children-child-items.ensures.image c.each.child-index c.each-test.true),
      c.children-child-items.ensures.own _ (element_in items c.each.child-index c.each-test.true),
    )

pub each-preserved : goal.each-preserved
each-preserved t c =
    let p = c.args.page.now in
    let w = c.args.w in
    let items = c.children-child-items.result.now in
    let i = c.each.child-index in
    let begun = c.extend_from_slice.new.self.items in
    let tail = texts_of (own_tree p w (get_or items i 0)) in
    c.in_ok-push_content.ensures
    ∙ ap (λ l. l ++ tail) c.each.invariant
    ∙ append_assoc begun (texts p w (take i items)) tail
    ∙ ap (λ l. begun ++ l) (sym (texts_more p w items i c.each-test.true))

pub returns : goal.returns
returns t c =
    let p = c.args.page.now in
    let w = c.args.w in
    let items = c.children-child-items.result.now in
    let i = c.each.child-index in
    c.each.invariant
    ∙ ap (λ l. l ++ texts p w (take i items)) c.in_ok-extend_from_slice.ensures.items
    ∙ append_assoc c.args.units.now.items c.own_units.result.now (texts p w (take i items))
    ∙ ap (λ l. c.args.units.now.items ++ l) (content_whole p w c.args.node c.requires items c.children-child-items.ensures.image c.own_units.result.now i c.own_units.ensures c.each-test.false)
