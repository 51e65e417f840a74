use Rattle.std.proofs.Common.{arith, ap, ◌∙◌, ◌<◌, length}
use Rattle.page_nodes.specs.Entries.{Entry, before, entry_of}
use Rattle.page_nodes.proofs.Lists.{entries_set, entry_read, entries_long, room_written, room_read}
use Rattle.page_nodes.proofs.links.add_child.Goals as goal

pub put_in-requires : goal.put_in-requires
put_in-requires c = let lt : c.args.parent < length c.args.rows.now.items = omega (arith, entries_long c.args.rows.now.items) in omega (arith, room_read c.args.rows.now.items c.args.parent c.index_mut.result.now lt c.index_mut.ensures.value)

pub returns-clause-links : goal.returns-clause-links
returns-clause-links c = entries_set _ _ _ _ (ap (λ l. record (entry_of c.index_mut.result.now) { children = l }) c.put_in.ensures.items ∙ ap (λ (k : Entry). record k { children = before c.args.next c.args.node k.children }) (entry_read c.args.rows.now.items c.args.parent _ (omega (arith, entries_long c.args.rows.now.items)) c.index_mut.ensures.value))

pub returns-clause-room : goal.returns-clause-room
returns-clause-room c = room_written c.args.rows.now.items c.args.parent 1 (record c.index_mut.result.now { children = c.put_in.new.list }) c.index_mut.result.now (omega (arith, entries_long c.args.rows.now.items)) c.index_mut.ensures.value c.put_in.ensures.room
