use Rattle.std.proofs.Common.{◌+◌, take, get_or, refl, ap, sym, ◌∙◌}
use Rattle.std.proofs.lemmas.List.Sums.{sum_by_more}
use Rattle.plain_tree.specs.Trees.{size}
use Rattle.widget_meaning.specs.PageForms.{tree_units}
use Rattle.native_common.specs.Numbers.{counted}
use Rattle.native_image.proofs.Lists.{element_in, take_whole}
use Rattle.bunch_read.proofs.Content.{own_tree}
use Rattle.bunch_read.proofs.Reading.{more_counted}
use Rattle.bunch_trees.proofs.Measured.{over, sizes_are, units_are}
use Rattle.bunch_trees.proofs.measuring.measure_all.Goals as goal

pub measure-requires : goal.measure-requires
measure-requires c = c.requires _ (element_in c.args.nodes.now c.each.node-index c.each-test.true)

pub each-init : goal.each-init
each-init c = record { nodes = refl; units = refl }

pub each-preserved : goal.each-preserved
each-preserved c =
    let p = c.args.page.now in
    let w = c.args.w.index in
    let items = c.args.nodes.now in
    let i = c.each.node-index in
    let n = get_or items i 0 in
    let more = sum_by_more (λ m. size (own_tree p w m)) items i 0 c.each-test.true in
    let more_units = sum_by_more (λ m. tree_units (own_tree p w m)) items i 0 c.each-test.true in
    record {
      nodes = more_counted c.each.all.nodes c.measure.result.nodes c.plus-all.result.nodes (over size p w (take i items)) (size (own_tree p w n)) (over size p w (take (i + 1) items)) c.each.invariant.nodes c.measure.ensures.nodes c.plus-all.ensures.nodes more;
      units = more_counted c.each.all.units c.measure.result.units c.plus-all.result.units (over tree_units p w (take i items)) (tree_units (own_tree p w n)) (over tree_units p w (take (i + 1) items)) c.each.invariant.units c.measure.ensures.units c.plus-all.ensures.units more_units;
    }

pub returns-clause-nodes : goal.returns-clause-nodes
returns-clause-nodes c =
    let p = c.args.page.now in
    let w = c.args.w.index in
    c.each.invariant.nodes ∙ ap counted (ap (over size p w) (take_whole c.args.nodes.now c.each.node-index c.each-test.false) ∙ sym (sizes_are p w c.args.nodes.now))

pub returns-clause-units : goal.returns-clause-units
returns-clause-units c =
    let p = c.args.page.now in
    let w = c.args.w.index in
    c.each.invariant.units ∙ ap counted (ap (over tree_units p w) (take_whole c.args.nodes.now c.each.node-index c.each-test.false) ∙ sym (units_are p w c.args.nodes.now))
