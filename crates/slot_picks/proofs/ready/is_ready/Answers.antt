use Rattle.std.proofs.Common.{◌∙◌}
use Rattle.slot_picks.specs.Places.{lent}
use Rattle.slot_picks.proofs.Busy.{ready_life, ready_none}
use Rattle.slot_picks.proofs.ready.is_ready.Goals as goal

pub returns-then-place : goal.returns-then-place
returns-then-place c = λ h w. ready_life h w c.args.place.now c.is_busy.result c.if-place.true (c.is_busy.ensures (lent h c.args.place.now) w)

pub returns-else-place : goal.returns-else-place
returns-else-place c = λ h w. c.if-place.false ∙ ready_none h w c.args.place.now c.if-place.false
