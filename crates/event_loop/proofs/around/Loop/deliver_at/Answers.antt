use Rattle.std.proofs.Common.{ap, sym, ◌∙◌}
use Rattle.event_loop.specs.Deliveries.{found_of, delivered_at}
use Rattle.event_loop.proofs.around.Loop.deliver_at.Goals as goal

pub returns-in-Some : goal.returns-in-Some
returns-in-Some c = ap (delivered_at c.args.target) (sym (ap found_of c.in-Some.is) ∙ c.in_ok-at.ensures)

pub returns-in-None : goal.returns-in-None
returns-in-None c = ap (delivered_at c.args.target) (sym (ap found_of c.in-None.is) ∙ c.in_ok-at.ensures)
