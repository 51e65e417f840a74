use Rattle.reach_cert.proofs.Walking.{kept_is_confined, confined_is_kept}
use Rattle.reach_cert.proofs.laws.each_slot_keeps_in.Goals as goal

pub returns : goal.returns
returns c = λ slots. (confined_is_kept slots, kept_is_confined slots)
