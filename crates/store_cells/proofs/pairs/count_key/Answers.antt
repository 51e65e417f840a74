use Rattle.store_cells.specs.Holes.{place_key}
use Rattle.store_cells.proofs.Live.{count_none, count_one}
use Rattle.store_cells.proofs.pairs.count_key.Goals as goal

pub returns-in-None-clause-count : goal.returns-in-None-clause-count
returns-in-None-clause-count c = count_none (place_key c.args.names.now c.args.array c.args.table.now.entries c.args.at) c.in-None.ensures.there

pub returns-in-Some-clause-count : goal.returns-in-Some-clause-count
returns-in-Some-clause-count c = count_one (place_key c.args.names.now c.args.array c.args.table.now.entries c.args.at) c.in-Some.ensures.there
