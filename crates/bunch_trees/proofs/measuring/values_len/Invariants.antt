use Rattle.std.proofs.Common.{◌≡◌, length, take, codes}
use Rattle.std.specs.Prelude.{sum_by}
use Rattle.native_common.specs.Numbers.{counted}
use Rattle.tree_ops.specs.Labels.{without_value}
use Rattle.bunch_trees.proofs.measuring.values_len.Given as goal

-- those before are counted
abbrev pub invariant-each : goal.invariant-each
invariant-each l = l.units ≡ counted (sum_by (λ a. length a.1) (without_value (codes "id") (take l.attribute-index l.attributes)))
