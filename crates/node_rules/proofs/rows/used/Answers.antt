use Rattle.first_breach.proofs.Narrowing.{narrows_both, narrows_along}
use Rattle.node_rules.proofs.rows.used.Goals as goal

pub returns : goal.returns
returns c = λ f known.
    narrows_both (narrows_along c.has_edge_underscore.ensures c.offer-best.ensures)
    (narrows_both (narrows_along c.is_reaching.ensures c.offer-best-2.ensures) (c.unbound.ensures f known))
