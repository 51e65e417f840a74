use Rattle.life_laws.proofs.RoundsHold.{round_laws}
use Rattle.life_laws.proofs.round_laws.rounds.Goals as goal

pub returns : goal.returns
returns c = round_laws
