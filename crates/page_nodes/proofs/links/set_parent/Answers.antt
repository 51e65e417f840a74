use Rattle.std.proofs.Common.{arith, ap}
use Rattle.page_nodes.specs.Entries.{Entry}
use Rattle.page_nodes.proofs.Lists.{entries_set, entry_read, entries_long, room_written}
use Rattle.page_nodes.proofs.links.set_parent.Goals as goal

pub returns-clause-links : goal.returns-clause-links
returns-clause-links c = entries_set _ _ _ _ (ap (λ (k : Entry). record k { parent = c.args.parent }) (entry_read c.args.rows.now.items c.args.node _ (omega (arith, entries_long c.args.rows.now.items)) c.index_mut.ensures.value))

pub returns-clause-room : goal.returns-clause-room
returns-clause-room c = λ t. omega (arith, room_written c.args.rows.now.items c.args.node 0 (record c.index_mut.result.now { parent = c.args.parent }) c.index_mut.result.now (omega (arith, entries_long c.args.rows.now.items)) c.index_mut.ensures.value (omega arith) t)
