use Rattle.store_cells.proofs.Costs.{no_cells}
use Rattle.store_cells.proofs.counts.charge_slots.Goals as goal

pub pay-requires-clause-cells : goal.pay-requires-clause-cells
pay-requires-clause-cells c = no_cells c.args.kept.now.items c.args.w c.requires.within
