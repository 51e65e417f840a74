use Rattle.std.proofs.Common.{take}
use Rattle.first_breach.specs.Breaches.{Nothing, Each}
use Rattle.first_breach.specs.Narrowing.{Narrows}
use Rattle.markup_rules.specs.Rows.{AttributeRows}
use Rattle.markup_rules.proofs.rows.all_attribute_rows.Given as goal

abbrev pub invariant-attrs : goal.invariant-attrs
invariant-attrs l = Narrows (Each (AttributeRows l.of_script) (take l.attr-index l.attrs)) l.fn.best Nothing l.least
