use Rattle.tree_ops.proofs.Numbers.{numbered_shape, numbered_order}
use Rattle.tree_ops.proofs.numbered_in_order.Goals as goal

pub returns : goal.returns
returns g c = record { shape = numbered_shape; order = numbered_order }
