use Rattle.std.proofs.Common.{arith, ap}
use Rattle.page_nodes.specs.Entries.{Entry}
use Rattle.page_nodes.proofs.Lists.{entries_set, entry_read, entries_long, room_set}
use Rattle.page_nodes.proofs.many.set_children.Goals as goal

pub returns-clause-links : goal.returns-clause-links
returns-clause-links c = entries_set _ _ _ _ (ap (λ (k : Entry). record k { children = c.args.children.items }) (entry_read c.args.rows.now.items c.args.parent _ (omega (arith, entries_long c.args.rows.now.items)) c.index_mut.ensures.value))

pub returns-clause-room : goal.returns-clause-room
returns-clause-room c = λ t. room_set c.args.rows.now.items c.args.parent t (record c.index_mut.result.now { children = c.args.children }) (omega (arith, entries_long c.args.rows.now.items))
