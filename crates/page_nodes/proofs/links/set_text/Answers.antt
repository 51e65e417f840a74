use Rattle.std.proofs.Common.{arith, ap}
use Rattle.plain_tree.specs.Trees.{TextOf}
use Rattle.page_nodes.specs.Entries.{Entry}
use Rattle.page_nodes.proofs.Lists.{entries_set, entry_read, entries_long}
use Rattle.page_nodes.proofs.links.set_text.Goals as goal

pub returns : goal.returns
returns c = entries_set _ _ _ _ (ap (λ (k : Entry). record k { label = TextOf c.args.text }) (entry_read c.args.rows.now.items c.args.node _ (omega (arith, entries_long c.args.rows.now.items)) c.index_mut.ensures.value))
