use Rattle.std.proofs.Common.{◌≡◌, take}
use Rattle.plain_tree.specs.Trees.{size}
use Rattle.widget_meaning.specs.PageForms.{tree_units}
use Rattle.native_common.specs.Numbers.{counted}
use Rattle.bunch_trees.proofs.Measured.{over}
use Rattle.bunch_trees.proofs.measuring.measure_all.Given as goal

-- what was counted of those before
abbrev pub invariant-each : goal.invariant-each
invariant-each l = record {
  nodes : l.all.nodes ≡ counted (over size l.page l.w.index (take l.node-index l.nodes));
  units : l.all.units ≡ counted (over tree_units l.page l.w.index (take l.node-index l.nodes));
}
