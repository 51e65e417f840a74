use Rattle.life_laws.proofs.PicksHold.{order_law}
use Rattle.life_laws.proofs.pick_laws.order.Goals as goal

-- src/laws.rt
pub returns : goal.returns
returns c = order_law
