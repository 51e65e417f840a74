use Rattle.slot_lives.proofs.Ending.{other_ends}
use Rattle.slot_lives.proofs.laws.other_ends.Goals as goal

pub returns : goal.returns
returns c = other_ends
