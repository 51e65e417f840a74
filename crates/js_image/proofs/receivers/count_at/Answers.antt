use Rattle.std.proofs.Common.{None, ap, if◌then◌else◌}
use Rattle.js_image.proofs.Arrays.{stored_test}
use Rattle.js_image.proofs.receivers.count_at.Goals as goal

pub returns-in-None-clause-count : goal.returns-in-None-clause-count
returns-in-None-clause-count c = ap (λ b. if b then 1 else 0) (stored_test c.args.store.now.cells c.args.cell c.args.at c.requires.cell None c.in-None.ensures)

pub returns-in-Some-clause-count : goal.returns-in-Some-clause-count
returns-in-Some-clause-count c = ap (λ b. if b then 1 else 0) (stored_test c.args.store.now.cells c.args.cell c.args.at c.requires.cell _ c.in-Some.ensures)
