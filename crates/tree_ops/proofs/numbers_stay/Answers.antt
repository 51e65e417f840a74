use Rattle.tree_ops.proofs.Numbers.{relabelled_numbers, copied_numbers}
use Rattle.tree_ops.proofs.numbers_stay.Goals as goal

pub returns : goal.returns
returns c = record { relabelled = relabelled_numbers; copied = copied_numbers }
