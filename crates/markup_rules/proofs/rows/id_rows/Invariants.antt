use Rattle.std.proofs.Common.{take}
use Rattle.first_breach.specs.Breaches.{Nothing, Each}
use Rattle.first_breach.specs.Narrowing.{Narrows}
use Rattle.markup_rules.specs.Rows.{IdRow}
use Rattle.markup_rules.proofs.rows.id_rows.Given as goal

abbrev pub invariant-attrs : goal.invariant-attrs
invariant-attrs l = Narrows (Each (IdRow l.name) (take l.attr-index l.attrs)) l.fn.best Nothing l.least
