use Rattle.std.proofs.Common.{[], arith, ap, ◌∙◌}
use Rattle.page_nodes.specs.Entries.{Entry, entry_of}
use Rattle.page_nodes.proofs.Lists.{entries_set, entry_read, entries_long}
use Rattle.page_nodes.proofs.many.drop_all.Goals as goal

pub returns : goal.returns
returns c = entries_set _ _ _ _ (ap (λ l. record (entry_of c.index_mut.result.now) { children = l }) c.clear.ensures.items ∙ ap (λ (k : Entry). record k { children = [] }) (entry_read c.args.rows.now.items c.args.parent _ (omega (arith, entries_long c.args.rows.now.items)) c.index_mut.ensures.value))
