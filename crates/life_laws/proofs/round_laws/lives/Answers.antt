use Rattle.life_laws.proofs.RoundsHold.{life_laws}
use Rattle.life_laws.proofs.round_laws.lives.Goals as goal

pub returns : goal.returns
returns c = life_laws
