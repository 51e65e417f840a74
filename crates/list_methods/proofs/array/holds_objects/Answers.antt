use Rattle.list_methods.proofs.Arrays.{length_seen}
use Rattle.list_methods.proofs.array.holds_objects.Goals as goal

pub has_objects-requires : goal.has_objects-requires
has_objects-requires c = c.requires.held.0

pub returns : goal.returns
returns c = λ fs r. c.has_objects.ensures fs r c.args.w.index c.args.array.len c.requires.held (length_seen c.args.w.index c.args.store.now c.args.array c.requires fs r)
