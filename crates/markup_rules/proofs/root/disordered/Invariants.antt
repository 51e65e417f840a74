use Rattle.std.proofs.Common.{drop, map, true}
use Rattle.first_breach.specs.Narrowing.{Narrows}
use Rattle.markup_rules.specs.Rows.{Disordered}
use Rattle.markup_rules.specs.Parts.{element_of}
use Rattle.markup_rules.proofs.root.disordered.Given as goal

abbrev pub invariant-scripts : goal.invariant-scripts
invariant-scripts l = Narrows (Disordered true (map element_of l.scripts)) l.fn.best (Disordered l.is_first (map element_of (drop l.script-index l.scripts))) l.least
