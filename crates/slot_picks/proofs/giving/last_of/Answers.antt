use Rattle.std.proofs.Common.{◌-◌, arith, length}
use Rattle.std.proofs.lemmas.Option.{slice_get-get_or}
use Rattle.slot_picks.proofs.Lasts.{last_end}
use Rattle.slot_picks.proofs.giving.last_of.Goals as goal

pub returns : goal.returns
returns c = last_end c.args.slot.now (length c.args.slot.now - 1) _ (omega (arith, c.requires)) (slice_get-get_or c.args.slot.now (length c.args.slot.now - 1) 0 (omega (arith, c.requires)))
