use Rattle.slot_reach.proofs.Naming.{last_whole}
use Rattle.slot_reach.proofs.names.last_of.Goals as goal

pub returns : goal.returns
returns c = last_whole c.args.lives.now c.if-is_empty.ensures
