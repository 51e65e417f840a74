use Rattle.std.proofs.Common.{ap, ◌∙◌, sym, subst}
use Rattle.page_nodes.specs.Entries.{entries, IsSound}
use Rattle.page_nodes.proofs.Lists.{entries_take}
use Rattle.page_nodes.proofs.arena.Arena.truncate.Goals as goal

pub invariant_of-self : goal.invariant_of-self
invariant_of-self c = record { sound = subst IsSound (sym (ap entries c.truncate.ensures.items ∙ entries_take c.args.len c.args.self.now.rows.items)) c.requires }

pub returns : goal.returns
returns c = ap entries c.truncate.ensures.items ∙ entries_take c.args.len c.args.self.now.rows.items
