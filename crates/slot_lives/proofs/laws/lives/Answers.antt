use Rattle.slot_lives.proofs.LawsHold.{life_laws}
use Rattle.slot_lives.proofs.laws.lives.Goals as goal

pub returns : goal.returns
returns g c = λ first others w. life_laws first others w
