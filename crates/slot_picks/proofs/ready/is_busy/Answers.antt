use Rattle.slot_picks.proofs.Busy.{busy_queue, busy_turn}
use Rattle.slot_picks.proofs.ready.is_busy.Goals as goal

pub returns-then-is_some : goal.returns-then-is_some
returns-then-is_some c = λ h w. busy_turn h w c.args.life.now c.is_some.result c.is_some.ensures c.if-is_some.true

pub returns-else-is_some : goal.returns-else-is_some
returns-else-is_some c = λ h w. busy_queue h w c.args.life.now c.is_some.result _ c.is_empty.result c.is_some.ensures c.if-is_some.false c.is_empty.ensures c.args.life.now.queue.ok.0
