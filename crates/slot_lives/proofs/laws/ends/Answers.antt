use Rattle.slot_lives.proofs.Ending.{end_laws}
use Rattle.slot_lives.proofs.laws.ends.Goals as goal

pub returns : goal.returns
returns c = λ channels lives ends. end_laws channels lives ends
