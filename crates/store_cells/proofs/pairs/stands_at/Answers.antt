use Rattle.std.proofs.Common.{sym}
use Rattle.store_cells.proofs.Live.{stands_first}
use Rattle.store_cells.proofs.pairs.stands_at.Goals as goal

pub returns-in-Some : goal.returns-in-Some
returns-in-Some c = λ same. stands_first c.args.n c.in-Some.k.now c.args.place c.in-Some._value.now c.args.table.now.entries c.len-len.ensures.distinct (sym c.in-Some.ensures) same
