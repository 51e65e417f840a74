use Rattle.std.proofs.Common.{subst, get_or}
use Rattle.std.specs.List.{fold}
use Rattle.widget_meaning.specs.BunchWrites.{change_kept}
use Rattle.page_image.specs.Around.{Shows}
use Rattle.page_image.specs.Image.{number}
use Rattle.native_image.proofs.Lists.{element_in, mapped_whole}
use Rattle.bunch_attributes.specs.Kept.{meant}
use Rattle.bunch_attributes.proofs.Changes.{holds_changed, holds_same, kept_more}
use Rattle.bunch_attributes.proofs.keeping.change_all.Goals as goal

pub each-init : goal.each-init
each-init c = record { shown = λ g s shows. shows; holds = λ s fine holds. holds }

pub each-preserved : goal.each-preserved
each-preserved c =
    let n = get_or c.args.list.now c.each.node-index 0 in
    let mine = c.requires n (element_in c.args.list.now c.each.node-index c.each-test.true) in
    record {
      shown = λ g s shows.
          kept_more c.args.page.now c.args.w.index g c.each.around c.change_node.new.around s c.args.list.now c.each.node-index c.args.change.now c.each-test.true mine c.change_node.ensures.others c.in_ok-change_node.ensures.done (c.each.invariant.shown g s shows);
      holds = λ s fine holds. holds_changed c.args.w.index s c.args.page.now c.each.around c.change_node.new.around c.change_node.ensures.others n c.args.change.now mine fine c.in_ok-change_node.ensures.done (c.each.invariant.holds s fine holds);
    }

pub returns-clause-shown : goal.returns-clause-shown
returns-clause-shown c = λ g s shows.
    subst (λ ns. Shows c.args.page.now c.args.w.index g c.each.around (fold (change_kept (meant g c.args.change.now)) s ns).own)
    (mapped_whole (number c.args.page.now c.args.w.index) c.args.list.now c.each.node-index c.each-test.false)
    (c.each.invariant.shown g s shows)

pub returns-clause-holds : goal.returns-clause-holds
returns-clause-holds c = c.each.invariant.holds

pub returns-in_err-change_node-clause-holds : goal.returns-in_err-change_node-clause-holds
returns-in_err-change_node-clause-holds c = λ s fine holds. holds_same c.args.w.index s c.args.page.now c.each.around c.change_node.new.around c.change_node.ensures.others c.in_err-change_node.ensures.same (c.each.invariant.holds s fine holds)
