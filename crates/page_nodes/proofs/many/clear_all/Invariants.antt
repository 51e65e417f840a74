use Rattle.std.proofs.Common.{take}
use Rattle.page_nodes.specs.Entries.{at, entries}
use Rattle.page_nodes.specs.Many.{AreCleared}
use Rattle.page_nodes.proofs.many.clear_all.Given as goal

-- the children so far
abbrev pub invariant-each : goal.invariant-each
invariant-each l = AreCleared (entries l.initial.rows.items) (entries l.rows.items) (at (entries l.initial.rows.items) l.parent).children (take l.place (at (entries l.initial.rows.items) l.parent).children)
