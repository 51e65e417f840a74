use Rattle.std.proofs.Common.{take, map}
use Rattle.first_breach.specs.Breaches.{Nothing, Each}
use Rattle.first_breach.specs.Narrowing.{Narrows}
use Rattle.markup_rules.specs.Rows.{OtherRows}
use Rattle.markup_rules.specs.Parts.{element_of}
use Rattle.markup_rules.proofs.rows.all_other_rows.Given as goal

abbrev pub invariant-parts : goal.invariant-parts
invariant-parts l = Narrows (Each (OtherRows l.name) (map element_of (take l.part-index l.parts))) l.fn.best Nothing l.least
