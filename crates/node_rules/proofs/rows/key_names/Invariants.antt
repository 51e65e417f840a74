use Rattle.std.proofs.Common.{take}
use Rattle.std.specs.Prelude.{map}
use Rattle.first_breach.specs.Breaches.{Nothing, Each}
use Rattle.first_breach.specs.Narrowing.{Narrows}
use Rattle.node_rules.specs.Names.{placed}
use Rattle.node_rules.specs.Sets.{PropertyRow}
use Rattle.node_rules.proofs.rows.key_names.Given as goal

abbrev pub invariant-keys : goal.invariant-keys
invariant-keys l = Narrows (Each PropertyRow (placed l.at l.places (take l.i (map (λ p. p.0) l.list)))) l.fn.best Nothing l.least
