use Rattle.tree_ops.proofs.Values.{attribute_after, names_after}
use Rattle.tree_ops.proofs.attribute_is_set.Goals as goal

pub returns : goal.returns
returns c = record { value = attribute_after; place = names_after }
