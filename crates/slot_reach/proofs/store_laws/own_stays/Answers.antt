use Rattle.slot_reach.proofs.Owning.{slot_stays}
use Rattle.slot_reach.proofs.store_laws.own_stays.Goals as goal

pub returns : goal.returns
returns c names name w fs p l named confined holds = slot_stays names name w named c.args.store.now fs confined p l holds c.bunches_have_nodes.ensures
