use Rattle.std.proofs.Common.{take}
use Rattle.first_breach.specs.Breaches.{Nothing, Each}
use Rattle.first_breach.specs.Narrowing.{Narrows}
use Rattle.node_rules.specs.Names.{placed}
use Rattle.node_rules.specs.Sets.{BinderRow}
use Rattle.node_rules.proofs.rows.bound_names.Given as goal

abbrev pub invariant-names : goal.invariant-names
invariant-names l = Narrows (Each BinderRow (placed l.at l.places (take l.i l.list))) l.fn.best Nothing l.least
