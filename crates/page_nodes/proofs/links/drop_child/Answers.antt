use Rattle.std.proofs.Common.{arith, ap, ◌∙◌}
use Rattle.page_nodes.specs.Entries.{Entry, minus, distinct, entry_of}
use Rattle.page_nodes.proofs.Lists.{entries_set, entry_read, entries_long, room_written}
use Rattle.page_nodes.proofs.links.drop_child.Goals as goal

pub take_out-requires : goal.take_out-requires
take_out-requires c = record { once = ap (λ (k : Entry). distinct k.children) (entry_read c.args.rows.now.items c.args.parent _ (omega (arith, entries_long c.args.rows.now.items)) c.index_mut.ensures.value) ∙ c.requires.once }

pub returns-clause-links : goal.returns-clause-links
returns-clause-links c = entries_set _ _ _ _ (ap (λ l. record (entry_of c.index_mut.result.now) { children = l }) c.take_out.ensures.items ∙ ap (λ (k : Entry). record k { children = minus c.args.node k.children }) (entry_read c.args.rows.now.items c.args.parent _ (omega (arith, entries_long c.args.rows.now.items)) c.index_mut.ensures.value))

pub returns-clause-room : goal.returns-clause-room
returns-clause-room c = λ t. omega (arith, room_written c.args.rows.now.items c.args.parent 0 (record c.index_mut.result.now { children = c.take_out.new.list }) c.index_mut.result.now (omega (arith, entries_long c.args.rows.now.items)) c.index_mut.ensures.value (omega (arith, c.take_out.ensures.room)) t)
