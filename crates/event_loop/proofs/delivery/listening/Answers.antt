use Rattle.std.proofs.Common.{ap, map}
use Rattle.std.specs.List.{filter}
use Rattle.std.specs.Str.{bytes_eq}
use Rattle.event_loop.proofs.Ways.{ok_items}
use Rattle.event_loop.proofs.delivery.listening.Goals as goal

pub returns : goal.returns
returns c = ok_items c.functions.result _ _ (ap (λ l. map (λ h. h.1) (filter (λ h. bytes_eq (h.0) c.args.kind.now) l)) c.handlers.ensures) c.functions.ensures
