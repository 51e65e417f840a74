use Rattle.std.specs.Hash.{le_bytes}
use Rattle.keyed_names.proofs.keys.length_bytes.Goals as goal

pub returns : goal.returns
unfolding le_bytes
returns c = c.to_le_bytes.ensures
