use Rattle.std.proofs.Common.{◌++◌, ap}
use Rattle.life_laws.specs.Journal.{ready_from}
use Rattle.life_laws.specs.Settled.{slot_flags}
use Rattle.slot_picks.specs.Lives.{chains_of, seens_of}
use Rattle.slot_picks.proofs.Settles.{slot_here, slot_step}
use Rattle.slot_picks.proofs.ready.fill_ready.Goals as goal

pub slots-init : goal.slots-init
slots-init c = ap (λ xs. xs ++ ready_from 0 (slot_flags (seens_of c.args.lives.now) (chains_of c.args.slots.now))) c.clear.ensures.items

pub slots-preserved : goal.slots-preserved
slots-preserved c =
    let here = slot_here c.args.slots.now c.slots.w c.slots-test.true in
    slot_step (seens_of c.args.lives.now) c.args.slots.now c.slots.w c.is_ready_at-is.result here.0 c.slots.ready.items _ _ here.1 (c.is_ready_at-is.ensures here.0 here.1) c.in_ok-note_ready.ensures c.slots.invariant
