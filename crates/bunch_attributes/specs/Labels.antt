-- Changes of labels.
use Rattle.std.specs.Prelude.{ℕ, List, Some, None, length}
use Rattle.std.specs.List.{fold}
use Rattle.plain_tree.specs.Trees as plain
use Rattle.tree_ops.specs.Labels.{with_attribute}
use Rattle.widget_meaning.specs.BunchWrites.{relabel, styled}
use Rattle.widget_meaning.specs.Costs.{give}
use Rattle.widget_meaning.specs.OwnState.{State}
use Rattle.widget_meaning.specs.PageForms.{want_all}
use Rattle.widget_meaning.specs.Plan.{Plan, charge}
use Rattle.widget_meaning.specs.Values.{Value}
use Rattle.native_image.specs.Charges.{Price, pay_for}
use Rattle.bunch_attributes.specs.declared.judging.Test.{Test}
use Rattle.bunch_attributes.specs.declared.relabelling.Label.{Label}
use Rattle.bunch_attributes.specs.declared.relabelling.Label.TheVariants as label
use Rattle.bunch_attributes.specs.Tests.{passes}

-- what a change makes of a label
abbrev pub meant : Label → plain.Label → plain.Label
meant (label.Set name v) l = with_attribute name (Some v) l
meant (label.Unset name) l = with_attribute name None l
meant (label.Style how) l = styled how.property how.value l

-- the labels of nodes are changed: each must pass, and then a charge and a price are taken
abbrev pub relabel_plan : Test → Label → Price → List ℕ → Value → State → Plan
relabel_plan t change c ns b s =
    want_all (passes t s) ns s (charge (length ns) s (pay_for c s (λ u. give b (fold (relabel (meant change)) u ns))))
