use Rattle.first_breach.proofs.Narrowing.{narrows_both, narrows_along}
use Rattle.node_rules.proofs.rows.form_rules.Goals as goal

pub returns : goal.returns
returns c = λ f.
    narrows_both (narrows_along (c.is_this.ensures f) c.offer-best.ensures)
    (narrows_both (narrows_along (c.is_adsafe.ensures f) c.offer-best-2.ensures)
    (narrows_both (narrows_along (c.is_loose_equality.ensures f) c.offer-best-3.ensures)
    (narrows_both (narrows_along (c.is_bitwise.ensures f) c.offer-best-4.ensures)
    (narrows_both (narrows_along (c.is_typed.ensures f) c.offer-best-5.ensures)
    (narrows_both (narrows_along (c.is_dropping.ensures f) c.offer-best-6.ensures)
    (narrows_along (c.is_wrong_number.ensures f) c.offer.ensures))))))
