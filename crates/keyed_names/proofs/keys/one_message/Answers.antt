use Rattle.keyed_names.proofs.Framed.{one_list}
use Rattle.keyed_names.proofs.keys.one_message.Goals as goal

pub returns : goal.returns
returns c = one_list
