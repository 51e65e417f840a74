use Rattle.slot_lives.proofs.Naming.{same_delivered}
use Rattle.slot_lives.proofs.laws.delivered.Goals as goal

pub returns : goal.returns
returns c = same_delivered
