use Rattle.slot_reach.proofs.Lasting.{ends_are}
use Rattle.slot_reach.proofs.laws.lasts_are_told.Goals as goal

pub returns : goal.returns
returns c = ends_are
