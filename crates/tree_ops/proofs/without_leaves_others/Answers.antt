use Rattle.tree_ops.proofs.Numbers.{once}
use Rattle.tree_ops.proofs.Taken.{without_left}
use Rattle.tree_ops.proofs.without_leaves_others.Goals as goal

pub returns : goal.returns
returns c = λ n ts h. without_left n ts (once ts h)
