use Rattle.tree_ops.proofs.Numbers.{has_listed}
use Rattle.tree_ops.proofs.has_its_numbers.Goals as goal

pub returns : goal.returns
returns c = has_listed
