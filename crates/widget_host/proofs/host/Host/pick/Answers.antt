use Rattle.std.proofs.Common.{◌≡◌, ◌+◌, false, refl, true}
use Rattle.widget_host.specs.declared.host.Host.{Host}
use Rattle.widget_host.specs.Housed.{IsHoused, journal, marked, swaps}
use Rattle.widget_host.proofs.Passed.{beside_here, beside_kept}
use Rattle.widget_host.proofs.Staying.{apart_stays, host_here, host_stays}
use Rattle.widget_host.proofs.Whole.{whole_stays}
use Rattle.widget_host.proofs.host.Host.pick.Goals as goal

pub pick_slot-requires-clause-housed : goal.pick_slot-requires-clause-housed
unfolding IsHoused marked
pick_slot-requires-clause-housed c = (16 + swaps c.args.self.now, (c.requires.housed.1 c.if-self.false).slots)

pub pick_slot-requires-clause-standing : goal.pick_slot-requires-clause-standing
unfolding IsHoused
pick_slot-requires-clause-standing c = c.requires.housed.0.standing

pub returns-in-Ok-clause-housed : goal.returns-in-Ok-clause-housed
unfolding IsHoused marked
returns-in-Ok-clause-housed c =
    let old = c.args.self.now in
    let new : Host = record old { lives = c.pick_slot.new.lives; slots = c.pick_slot.new.slots } in
    let apart = apart_stays old new c.in-Ok.ensures.stays c.requires.housed.0 in (
      apart,
      λ unmarked. let whole = c.requires.housed.1 c.if-self.false in
          whole_stays old new c.in-Ok.ensures.stays apart refl refl (c.in-Ok.ensures.housed (16 + swaps old) whole.slots) c.in-Ok.ensures.few whole,
    )

pub returns-in-Err-clause-housed : goal.returns-in-Err-clause-housed
unfolding IsHoused marked
returns-in-Err-clause-housed c = (apart_stays c.args.self.now _ c.pick_slot.ensures.stays c.requires.housed.0, λ unmarked. absurd (let both : true ≡ false = unmarked in cc))

pub returns-then-self-clause-stays : goal.returns-then-self-clause-stays
returns-then-self-clause-stays c = host_here c.args.self.now

pub returns-in-Ok-clause-stays : goal.returns-in-Ok-clause-stays
returns-in-Ok-clause-stays c = host_stays c.args.self.now _ c.in-Ok.ensures.stays refl refl refl

pub returns-in-Err-clause-stays : goal.returns-in-Err-clause-stays
returns-in-Err-clause-stays c = host_stays c.args.self.now _ c.pick_slot.ensures.stays refl refl refl

pub returns-then-self-clause-beside : goal.returns-then-self-clause-beside
returns-then-self-clause-beside c = beside_here c.args.w c.args.self.now

pub returns-in-Ok-clause-beside : goal.returns-in-Ok-clause-beside
returns-in-Ok-clause-beside c = beside_kept c.args.w c.args.self.now _ c.pick_slot.ensures.beside

pub returns-in-Err-clause-beside : goal.returns-in-Err-clause-beside
returns-in-Err-clause-beside c = beside_kept c.args.w c.args.self.now _ c.pick_slot.ensures.beside

pub returns-in-Err-clause-journal : goal.returns-in-Err-clause-journal
unfolding journal
returns-in-Err-clause-journal c = c.in-Err.ensures.still
