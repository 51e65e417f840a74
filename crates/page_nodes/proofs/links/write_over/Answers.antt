use Rattle.std.proofs.Common.{arith}
use Rattle.page_nodes.proofs.Swap.{write_found}
use Rattle.page_nodes.proofs.links.write_over.Goals as goal

pub index_mut-requires : goal.index_mut-requires
index_mut-requires c = omega (arith, (write_found c.args.old c.args.new _ _ _ c.deref.ensures.value c.requires.listed c.requires.once c.requires.other c.place_of-place.ensures.bound c.place_of-place.ensures.first c.place_of-place.ensures.found).0, c.args.list.now.ok.0)

pub returns : goal.returns
returns c = record { items = (write_found c.args.old c.args.new _ _ _ c.deref.ensures.value c.requires.listed c.requires.once c.requires.other c.place_of-place.ensures.bound c.place_of-place.ensures.first c.place_of-place.ensures.found).1 }
