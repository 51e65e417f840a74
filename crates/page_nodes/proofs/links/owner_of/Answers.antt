use Rattle.std.proofs.Common.{ap, arith}
use Rattle.page_nodes.specs.Entries.{Entry}
use Rattle.page_nodes.proofs.Lists.{entry_read, entries_long}
use Rattle.page_nodes.proofs.links.owner_of.Goals as goal

pub returns : goal.returns
returns c = ap (λ (k : Entry). k.owner) (entry_read c.args.rows.now.items c.args.node _ (omega (arith, entries_long c.args.rows.now.items)) c.index.ensures)
