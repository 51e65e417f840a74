use Rattle.std.proofs.Common.{◌≡◌, ◌+◌, ap, false, refl, subst, true}
use Rattle.std.specs.Prelude.{is_ok}
use Rattle.slot_picks.specs.Lives.{PicksUntil}
use Rattle.widget_host.specs.declared.host.Host.{Host}
use Rattle.widget_host.specs.Housed.{IsHoused, marked, no_pick, swaps}
use Rattle.widget_host.proofs.Passed.{passes_until, wants_here}
use Rattle.widget_host.proofs.Staying.{apart_stays, host_here, host_stays}
use Rattle.widget_host.proofs.Whole.{whole_stays}
use Rattle.widget_host.proofs.host.Host.settle.Goals as goal

pub settle_slots-requires-clause-housed : goal.settle_slots-requires-clause-housed
unfolding IsHoused marked
settle_slots-requires-clause-housed g c = (16 + swaps c.args.self.now, (c.requires.housed.1 c.if-self.false).slots)

pub settle_slots-requires-clause-standing : goal.settle_slots-requires-clause-standing
unfolding IsHoused
settle_slots-requires-clause-standing g c = c.requires.housed.0.standing

pub returns-in-Ok-clause-housed : goal.returns-in-Ok-clause-housed
unfolding IsHoused marked
returns-in-Ok-clause-housed g c =
    let old = c.args.self.now in
    let new : Host = record old { lives = c.settle_slots.new.lives; slots = c.settle_slots.new.slots } in
    let apart = apart_stays old new c.in-Ok.ensures.stays c.requires.housed.0 in (
      apart,
      λ unmarked. let whole = c.requires.housed.1 c.if-self.false in
          whole_stays old new c.in-Ok.ensures.stays apart refl refl (c.in-Ok.ensures.housed (16 + swaps old) whole.slots) c.in-Ok.ensures.few whole,
    )

pub returns-in-Err-clause-housed : goal.returns-in-Err-clause-housed
unfolding IsHoused marked
returns-in-Err-clause-housed g c = (apart_stays c.args.self.now _ c.settle_slots.ensures.stays c.requires.housed.0, λ unmarked. absurd (let both : true ≡ false = unmarked in cc))

pub returns-then-self-clause-stays : goal.returns-then-self-clause-stays
returns-then-self-clause-stays g c = host_here c.args.self.now

pub returns-in-Ok-clause-stays : goal.returns-in-Ok-clause-stays
returns-in-Ok-clause-stays g c = host_stays c.args.self.now _ c.in-Ok.ensures.stays refl refl refl

pub returns-in-Err-clause-stays : goal.returns-in-Err-clause-stays
returns-in-Err-clause-stays g c = host_stays c.args.self.now _ c.settle_slots.ensures.stays refl refl refl

pub returns-then-self-clause-passes : goal.returns-then-self-clause-passes
returns-then-self-clause-passes g c = record { last = c.args.self.now; picks = no_pick; is = λ e. refl; wanted = λ e. wants_here c.args.self.now }

pub returns-in-Ok-clause-passes : goal.returns-in-Ok-clause-passes
returns-in-Ok-clause-passes g c = passes_until c.args.slice c.args.self.now true _ (λ e. refl) c.in-Ok.ensures.passes

pub returns-in-Err-clause-passes : goal.returns-in-Err-clause-passes
returns-in-Err-clause-passes g c =
    let ended : is_ok c.settle_slots.result ≡ false = ap is_ok c.in-Err.is in
    passes_until c.args.slice c.args.self.now false _ (λ e. absurd (let both : false ≡ true = e in cc))
    (subst (λ b. PicksUntil c.args.slice c.args.self.now.lives c.args.self.now.slots b c.settle_slots.new.lives c.settle_slots.new.slots) ended c.settle_slots.ensures.passes)
