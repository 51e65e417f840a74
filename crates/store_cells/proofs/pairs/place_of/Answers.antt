use Rattle.std.proofs.Common.{ap, is_some}
use Rattle.store_cells.proofs.Live.{hole_is, live_none, name_is, place_held}
use Rattle.store_cells.proofs.pairs.place_of.Goals as goal

pub returns-then-n-lt-FIRST_HOLE : goal.returns-then-n-lt-FIRST_HOLE
returns-then-n-lt-FIRST_HOLE c = place_held c.args.n c.get_index_of.result c.args.table.now.entries (name_is c.args.n c.if-n-lt-FIRST_HOLE.true) c.get_index_of.ensures

pub returns-else-n-lt-FIRST_HOLE : goal.returns-else-n-lt-FIRST_HOLE
returns-else-n-lt-FIRST_HOLE c = ap is_some (live_none c.args.n c.args.table.now.entries (hole_is c.args.n c.if-n-lt-FIRST_HOLE.false))
