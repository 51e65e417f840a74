use Rattle.std.proofs.Common.{arith}
use Rattle.pair_table.proofs.table.insert_in.Goals as goal

pub returns-then-is_near-clause-spare : goal.returns-then-is_near-clause-spare
returns-then-is_near-clause-spare g c = omega (arith, c.set_in.ensures.spare)
