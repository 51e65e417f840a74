use Rattle.std.proofs.Common.{◌≡◌, ◌++◌, drop}
use Rattle.life_laws.specs.Journal.{ready_from}
use Rattle.life_laws.specs.Settled.{slot_flags}
use Rattle.slot_picks.specs.Lives.{chains_of, seens_of}
use Rattle.slot_picks.proofs.ready.fill_ready.Given as goal

abbrev pub invariant-slots : goal.invariant-slots
invariant-slots l = l.ready.items ++ ready_from l.w (slot_flags (seens_of l.lives) (chains_of (drop l.w l.slots))) ≡ ready_from 0 (slot_flags (seens_of l.lives) (chains_of l.slots))
