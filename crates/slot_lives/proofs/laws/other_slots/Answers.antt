use Rattle.slot_lives.proofs.Others.{other_slots}
use Rattle.slot_lives.proofs.laws.other_slots.Goals as goal

pub returns : goal.returns
returns g c = λ first x before after front back i w is other even. other_slots first x before after front back i w is other even
