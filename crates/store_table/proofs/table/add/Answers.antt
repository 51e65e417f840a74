use Rattle.store_cells.proofs.Adds.{added_ok}
use Rattle.store_table.proofs.table.add.Goals as goal

pub returns-clause-ok : goal.returns-clause-ok
returns-clause-ok c = added_ok c.args.names.now c.args.cells.now.items c.push.new.cells.items c.args.cell c.push.result c.requires.base c.requires.fine c.requires.ordered c.push.ensures.ok
