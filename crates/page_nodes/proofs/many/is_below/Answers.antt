use Rattle.std.proofs.Common.{ap, arith, ◌∙◌}
use Rattle.std.specs.Prelude.{is_some}
use Rattle.page_nodes.specs.Entries.{entries}
use Rattle.page_nodes.proofs.Lists.{entries_long}
use Rattle.page_nodes.proofs.Raised.{past}
use Rattle.page_nodes.proofs.many.is_below.Goals as goal

pub returns : goal.returns
returns c = c.is_some.ensures ∙ ap is_some c.parent_of.ensures

pub returns-then-node-len : goal.returns-then-node-len
returns-then-node-len c = past (entries c.args.rows.now.items) c.args.node (omega (arith, entries_long c.args.rows.now.items, c.len.ensures, c.if-node-len.true))
