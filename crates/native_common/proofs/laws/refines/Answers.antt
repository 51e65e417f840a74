use Rattle.native_common.proofs.Meeting.{refines_charged, refines_free, refines_lacking, refines_same}
use Rattle.native_common.proofs.laws.refines.Goals as goal

pub returns : goal.returns
returns c = record { free = refines_free; charged = refines_charged; lacking = refines_lacking; same = refines_same }
