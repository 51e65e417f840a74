use Rattle.std.proofs.Common.{take, map}
use Rattle.first_breach.specs.Breaches.{Nothing, Each}
use Rattle.first_breach.specs.Narrowing.{Narrows}
use Rattle.markup_rules.specs.Rows.{InsideRow}
use Rattle.markup_rules.specs.Parts.{element_of}
use Rattle.markup_rules.proofs.rows.inside_rows.Given as goal

abbrev pub invariant-scripts : goal.invariant-scripts
invariant-scripts l = Narrows (Each InsideRow (map element_of (take l.script-index l.scripts))) l.fn.best Nothing l.least
