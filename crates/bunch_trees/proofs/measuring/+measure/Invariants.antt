use Rattle.std.proofs.Common.{◌≡◌, ◌+◌, take}
use Rattle.plain_tree.specs.Trees.{height, size}
use Rattle.widget_meaning.specs.PageForms.{tree_units}
use Rattle.native_common.specs.Numbers.{counted}
use Rattle.bunch_read.proofs.Content.{own_tree}
use Rattle.bunch_trees.proofs.Measured.{over}
use Rattle.bunch_trees.proofs.measuring.+measure.Given as goal

-- what was counted of the children
abbrev pub invariant-each : goal.invariant-each
invariant-each l = record {
  nodes : l.all.nodes ≡ counted (1 + over size l.page l.w.index (take l.child-index l.child-items));
  units : l.all.units ≡ counted (l.initial.all.units + over tree_units l.page l.w.index (take l.child-index l.child-items));
}

abbrev pub decreases-measure : goal.decreases-measure
decreases-measure l = height (own_tree l.page.now l.w.index l.node)
