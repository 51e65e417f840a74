use Rattle.std.proofs.Common.{◌∙◌}
use Rattle.store_cells.proofs.Live.{hole_is, live_lookup, live_none, name_is}
use Rattle.store_cells.proofs.pairs.value.Goals as goal

pub returns-then-n-lt-FIRST_HOLE : goal.returns-then-n-lt-FIRST_HOLE
returns-then-n-lt-FIRST_HOLE c = c.get.ensures ∙ live_lookup c.args.n c.args.table.now.entries (name_is c.args.n c.if-n-lt-FIRST_HOLE.true)

pub returns-else-n-lt-FIRST_HOLE : goal.returns-else-n-lt-FIRST_HOLE
returns-else-n-lt-FIRST_HOLE c = live_none c.args.n c.args.table.now.entries (hole_is c.args.n c.if-n-lt-FIRST_HOLE.false)
