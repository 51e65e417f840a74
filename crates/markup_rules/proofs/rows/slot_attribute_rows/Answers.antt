use Rattle.first_breach.proofs.Narrowing.{narrows_along, narrows_both}
use Rattle.markup_rules.proofs.rows.slot_attribute_rows.Goals as goal

pub returns : goal.returns
returns c = narrows_both (narrows_along c.is_stray.ensures c.offer-best.ensures) (narrows_along c.is_missing.ensures c.offer.ensures)
