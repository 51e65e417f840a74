use Rattle.std.proofs.Common.{take, map}
use Rattle.first_breach.specs.Breaches.{Nothing, Each}
use Rattle.first_breach.specs.Narrowing.{Narrows}
use Rattle.markup_rules.specs.Rows.{SlotRows}
use Rattle.markup_rules.specs.Parts.{element_of}
use Rattle.markup_rules.proofs.rows.all_slot_rows.Given as goal

abbrev pub invariant-parts : goal.invariant-parts
invariant-parts l = Narrows (Each (SlotRows l.slot.name.now l.slot.libs.now) (map element_of (take l.part-index l.parts))) l.fn.best Nothing l.least
