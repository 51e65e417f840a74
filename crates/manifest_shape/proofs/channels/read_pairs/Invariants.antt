use Rattle.manifest_shape.proofs.ChannelLemmas.{ChannelsSoFar}
use Rattle.manifest_shape.proofs.channels.read_pairs.Given as goal

abbrev pub invariant-pairs : goal.invariant-pairs
invariant-pairs l = ChannelsSoFar l.names l.pairs l.pair-index l.channels.items
