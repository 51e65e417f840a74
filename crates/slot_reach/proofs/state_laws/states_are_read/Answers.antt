use Rattle.slot_reach.proofs.Stating.{state_is}
use Rattle.slot_reach.proofs.state_laws.states_are_read.Goals as goal

pub returns : goal.returns
returns c names name fs x w p l b apart named confined holds = state_is names name fs x w c.args.store.now p l b c.permitted_leads_on.ensures c.bunches_have_nodes.ensures c.arrays_have_length.ensures apart named confined holds
