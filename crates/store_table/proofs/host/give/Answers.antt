use Rattle.store_table.proofs.Gifts.{plain_plan}
use Rattle.store_table.proofs.host.give.Goals as goal

pub write_own-requires-clause-plan : goal.write_own-requires-clause-plan
write_own-requires-clause-plan c = plain_plan c.args.cells.now.items c.in_ok-name.name c.args.value c.requires.plain c.args.home
