use Rattle.std.proofs.Common.{◌+◌, take, get_or, arith, refl, ap, ◌∙◌}
use Rattle.std.proofs.lemmas.List.Sums.{sum_by_more}
use Rattle.plain_tree.specs.Trees.{size}
use Rattle.widget_meaning.specs.PageForms.{tree_units}
use Rattle.page_nodes.specs.Entries.{at}
use Rattle.page_tree.specs.Pages.{nodes}
use Rattle.page_image.proofs.Looks.{label_at}
use Rattle.native_common.specs.Numbers.{counted}
use Rattle.native_image.proofs.Lists.{element_in, take_whole}
use Rattle.bunch_read.proofs.Content.{lower, own_tree}
use Rattle.bunch_read.proofs.Reading.{add_counted, first_counted, more_counted}
use Rattle.bunch_trees.specs.Appends.{label_units}
use Rattle.bunch_trees.proofs.Measured.{over, size_whole, units_whole}
use Rattle.bunch_trees.proofs.measuring.+measure.Goals as goal

pub measure-requires : goal.measure-requires
measure-requires t c =
    let items = c.children-child-items.result.now in (
      omega (arith, c.decreases, lower c.args.page.now c.args.w.index c.args.node c.requires items c.children-child-items.ensures.image c.each.child-index c.each-test.true),
      c.children-child-items.ensures.own _ (element_in items c.each.child-index c.each-test.true),
    )

pub each-init : goal.each-init
each-init t c = record {
  nodes = refl;
  units = first_counted c.own_units.result (label_units (at (nodes c.args.page.now) c.args.node).label) (c.own_units.ensures _ (label_at c.args.page.now c.args.w.index c.args.node c.requires));
}

pub each-preserved : goal.each-preserved
each-preserved t c =
    let p = c.args.page.now in
    let w = c.args.w.index in
    let items = c.children-child-items.result.now in
    let i = c.each.child-index in
    let n = get_or items i 0 in
    let more = sum_by_more (λ m. size (own_tree p w m)) items i 0 c.each-test.true in
    let more_units = sum_by_more (λ m. tree_units (own_tree p w m)) items i 0 c.each-test.true in
    record {
      nodes = more_counted c.each.all.nodes c.measure.result.nodes c.plus-all.result.nodes (1 + over size p w (take i items)) (size (own_tree p w n)) (1 + over size p w (take (i + 1) items)) c.each.invariant.nodes c.measure.ensures.nodes c.plus-all.ensures.nodes (omega (arith, more));
      units = more_counted c.each.all.units c.measure.result.units c.plus-all.result.units (c.own_units.result + over tree_units p w (take i items)) (tree_units (own_tree p w n)) (c.own_units.result + over tree_units p w (take (i + 1) items)) c.each.invariant.units c.measure.ensures.units c.plus-all.ensures.units (omega (arith, more_units));
    }

pub returns-clause-nodes : goal.returns-clause-nodes
returns-clause-nodes t c =
    let p = c.args.page.now in
    let w = c.args.w.index in
    let items = c.children-child-items.result.now in
    let l = (at (nodes p) c.args.node).label in
    c.each.invariant.nodes
    ∙ ap counted (ap (λ k. 1 + over size p w k) (take_whole items c.each.child-index c.each-test.false) ∙ size_whole p w c.args.node l items (label_at p w c.args.node c.requires) c.children-child-items.ensures.image)

pub returns-clause-units : goal.returns-clause-units
returns-clause-units t c =
    let p = c.args.page.now in
    let w = c.args.w.index in
    let items = c.children-child-items.result.now in
    let i = c.each.child-index in
    let l = (at (nodes p) c.args.node).label in
    add_counted c.each.all.units c.own_units.result (label_units l) (over tree_units p w (take i items)) (tree_units (own_tree p w c.args.node)) c.each.invariant.units (c.own_units.ensures l (label_at p w c.args.node c.requires))
    (ap (λ k. label_units l + over tree_units p w k) (take_whole items i c.each-test.false) ∙ units_whole p w c.args.node l items (label_at p w c.args.node c.requires) c.children-child-items.ensures.image)
