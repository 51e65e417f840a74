use Rattle.slot_picks.proofs.Untold.{untold_is}
use Rattle.slot_picks.proofs.posting.untold.Goals as goal

pub returns : goal.returns
returns c = untold_is c.args.told 256 c.min-end.result c.min-start.result c.args.kept.now c.min-end.ensures c.min-start.ensures
