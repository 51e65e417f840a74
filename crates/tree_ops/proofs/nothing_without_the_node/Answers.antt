use Rattle.tree_ops.proofs.Absent.{without_off, relabelled_off, grafted_off}
use Rattle.tree_ops.proofs.nothing_without_the_node.Goals as goal

pub returns : goal.returns
returns c = record { without = without_off; grafted = grafted_off; relabelled = relabelled_off }
