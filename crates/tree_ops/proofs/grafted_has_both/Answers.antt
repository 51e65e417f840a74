use Rattle.tree_ops.proofs.Grafted.{behind_last, has_grafted}
use Rattle.tree_ops.proofs.grafted_has_both.Goals as goal

pub returns : goal.returns
returns c = record { last = behind_last; both = has_grafted }
