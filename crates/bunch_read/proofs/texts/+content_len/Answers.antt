use Rattle.std.proofs.Common.{◌≡◌, ◌+◌, length, take, get_or, arith, ap, sym, ◌∙◌, length-append}
use Rattle.widget_meaning.specs.PageForms.{texts_of}
use Rattle.page_nodes.specs.Entries.{at}
use Rattle.page_tree.specs.Pages.{nodes}
use Rattle.page_image.proofs.Looks.{label_at}
use Rattle.bunch_read.specs.Values.{own_text}
use Rattle.bunch_read.proofs.Lists.{element_in}
use Rattle.bunch_read.proofs.Content.{content_whole, lower, own_same, own_tree, texts, texts_more}
use Rattle.bunch_read.proofs.Reading.{add_counted, first_counted, more_counted}
use Rattle.bunch_read.proofs.texts.+content_len.Goals as goal

pub content_len-requires : goal.content_len-requires
content_len-requires t c =
    let items = c.children-child-items.result.now in (
      omega (arith, c.decreases, lower c.args.page.now c.args.w c.args.node c.requires items c.children-child-items.ensures.image c.each.child-index c.each-test.true),
      c.children-child-items.ensures.own _ (element_in items c.each.child-index c.each-test.true),
    )

pub each-init : goal.each-init
each-init t c = first_counted c.own_len-len.result (length (own_text (at (nodes c.args.page.now) c.args.node).label)) (c.own_len-len.ensures _ (label_at c.args.page.now c.args.w c.args.node c.requires))

pub each-preserved : goal.each-preserved
each-preserved t c =
    let p = c.args.page.now in
    let w = c.args.w in
    let items = c.children-child-items.result.now in
    let i = c.each.child-index in
    let e : length (texts p w (take (i + 1) items)) ≡ length (texts p w (take i items)) + length (texts_of (own_tree p w (get_or items i 0))) = ap length (texts_more p w items i c.each-test.true) ∙ length-append (texts p w (take i items)) (texts_of (own_tree p w (get_or items i 0))) in
    more_counted c.each.len c.content_len.result c.saturating_add-len.result (c.own_len-len.result + length (texts p w (take i items))) (length (texts_of (own_tree p w (get_or items i 0)))) (c.own_len-len.result + length (texts p w (take (i + 1) items))) c.each.invariant c.content_len.ensures c.saturating_add-len.ensures (omega (arith, e))

pub returns : goal.returns
returns t c =
    let p = c.args.page.now in
    let w = c.args.w in
    let items = c.children-child-items.result.now in
    let i = c.each.child-index in
    let l = (at (nodes p) c.args.node).label in
    add_counted c.each.len c.own_len-len.result (length (own_text l)) (length (texts p w (take i items))) (length (texts_of (own_tree p w c.args.node))) c.each.invariant (c.own_len-len.ensures l (label_at p w c.args.node c.requires))
    (sym (length-append (own_text l) (texts p w (take i items))) ∙ ap length (content_whole p w c.args.node c.requires items c.children-child-items.ensures.image (own_text l) i (λ k e. own_same _ l k (label_at p w c.args.node c.requires) e) c.each-test.false))
