use Rattle.std.proofs.Common.{subst, sym, arith}
use Rattle.slot_picks.specs.Lives.{AreHoused, no_pick, one_pick, seens_of}
use Rattle.slot_picks.specs.Places.{homes_of}
use Rattle.slot_picks.proofs.Owning.{owns_fine}
use Rattle.slot_picks.proofs.Picking.{on_err}
use Rattle.slot_picks.proofs.Settles.{listed, slot_there, still_ready}
use Rattle.slot_picks.proofs.Slotted.{picks_stop, wants_here}
use Rattle.slot_picks.proofs.settling.pick_ready.Goals as goal

pub pick_slot-requires : goal.pick_slot-requires
pick_slot-requires c = record {
  there = slot_there (seens_of c.args.lives.now) c.args.slots.now.items c.args.ready.now.items c.requires.ready.0 c.args.w c.requires.list c.requires.ready.1;
  slice = c.requires.slice;
  housed = c.requires.housed;
  standing = c.requires.standing;
}

pub fill_ready-requires : goal.fill_ready-requires
fill_ready-requires c =
    let born = c.requires.housed.0 in
    record { housed = (born, subst (λ ss. AreHoused born c.pick_slot.new.lives ss) (sym c.deref.ensures.value) (c.in_ok-picked.ensures.housed born c.requires.housed.1)) }

pub returns-in-Unfinished-clause-list : goal.returns-in-Unfinished-clause-list
returns-in-Unfinished-clause-list c =
    let born = c.requires.housed.0 in
    let h = c.requires.housed.1 in
    let there = slot_there (seens_of c.args.lives.now) c.args.slots.now.items c.args.ready.now.items c.requires.ready.0 c.args.w c.requires.list c.requires.ready.1 in
    still_ready (homes_of c.args.lives.now.places.items) born c.args.w c.args.k _ c.in_ok-picked.picked _ _ _ _ _ _ c.args.ready.now.items c.requires.ready.0 (omega (arith, there, h.slots)) h.chains c.in-Unfinished.is c.in_ok-picked.ensures.picked c.requires.list c.requires.ready.1

pub returns-clause-list : goal.returns-clause-list
returns-clause-list c = listed c.pick_slot.new.lives c.fill_ready.new.ready.items c.pick_slot.new.slots.items c.deref.result.now c.deref.ensures.value c.in_ok-fill_ready.ensures

pub returns-in_err-picked-clause-stops : goal.returns-in_err-picked-clause-stops
returns-in_err-picked-clause-stops c =
    on_err c.from_residual.result
    (picks_stop c.args.k c.args.lives.now c.args.lives.now c.pick_slot.new.lives c.args.slots.now c.args.slots.now c.pick_slot.new.slots no_pick (record { slot = c.args.w; journal = c.in_err-picked.ensures.still; beside = c.pick_slot.ensures.beside }))

pub returns-in_err-fill_ready-clause-stops : goal.returns-in_err-fill_ready-clause-stops
returns-in_err-fill_ready-clause-stops c =
    let d = c.pick_slot.new.lives in
    let ts = c.pick_slot.new.slots in
    let own = owns_fine d.shared 0 d.places.items (c.in_ok-picked.ensures.housed c.requires.housed.0 c.requires.housed.1).lives.fine in
    on_err c.from_residual-in_err-fill_ready.result (picks_stop c.args.k c.args.lives.now d d c.args.slots.now ts ts (one_pick no_pick c.in_ok-picked.ensures.picked own) (wants_here d ts.items))
