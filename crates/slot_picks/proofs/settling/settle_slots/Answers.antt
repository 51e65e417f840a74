use Rattle.std.proofs.Common.{◌≡◌, ◌∙◌, ◌<◌, ℕ, [], sym, ap, refl, arith, length, subst, Some}
use Rattle.std.specs.Prelude.{slice_get}
use Rattle.std.proofs.lemmas.Option.{slice_get_read}
use Rattle.life_laws.proofs.Ready.{empty_of, rises_as}
use Rattle.life_laws.specs.Journal.{ready_from}
use Rattle.life_laws.specs.Chains.{Chains}
use Rattle.life_laws.specs.Settled.{slot_flags}
use Rattle.life_laws.proofs.SlotsSettling.{all_done, slots_lighter, slots_none, slots_on}
use Rattle.slot_picks.specs.Lives.{AreHoused, chains_of, no_pick, one_pick, seens_of}
use Rattle.slot_picks.specs.Places.{homes_of}
use Rattle.slot_picks.proofs.Housing.{lasts_picked}
use Rattle.slot_picks.proofs.Owning.{owns_fine}
use Rattle.slot_picks.proofs.Quiet.{only_lasts}
use Rattle.slot_picks.proofs.Settles.{listed, slot_there, slots_below}
use Rattle.slot_picks.proofs.Slotted.{picks_more, picks_stop, picks_whole, slots_here, slots_then, wants_here}
use Rattle.slot_picks.proofs.settling.settle_slots.Goals as goal

pub ready_slots-requires : goal.ready_slots-requires
ready_slots-requires g c =
    let born = c.requires.housed.0 in
    record { housed = (born, subst (λ ss. AreHoused born c.args.lives.now ss) (sym c.deref.ensures.value) c.requires.housed.1) }

pub picks-init : goal.picks-init
picks-init g c = record {
  settled = slots_none c.args.slice (homes_of c.args.lives.now.places.items) (chains_of c.args.slots.now.items) (seens_of c.args.lives.now) c.args.lives.now.journal.items _ _;
  list = listed c.args.lives.now c.in_ok-ready.ready.items c.args.slots.now.items c.deref.result.now c.deref.ensures.value c.in_ok-ready.ensures;
  housed = λ born h. h;
  few = λ n h. h;
  picks = no_pick;
  stays = slots_here c.args.lives.now c.args.slots.now.items;
  lasts = refl;
}

pub returns-then-is_empty : goal.returns-then-is_empty
returns-then-is_empty g c =
    let born = c.requires.housed.0 in
    let h = c.picks.invariant.housed born c.requires.housed.1 in
    let none : c.picks.ready.items ≡ [] = empty_of c.picks.ready.items _ c.is_empty.result c.is_empty.ensures c.if-is_empty.true c.picks.ready.ok.0 in
    let quiet : ready_from 0 (slot_flags (seens_of c.picks.lives) (chains_of c.picks.slots.items)) ≡ [] = sym c.picks.invariant.list ∙ none in
    record {
      settled = c.picks.invariant.settled;
      passes = picks_whole c.args.slice c.args.lives.now c.picks.lives c.args.slots.now c.picks.slots c.picks.invariant.picks;
      done = all_done (chains_of c.picks.slots.items) (seens_of c.picks.lives) quiet h.rest ∙ c.picks.invariant.settled.went.dues;
      quiet = quiet;
      lasts = only_lasts (homes_of c.picks.lives.places.items) born (seens_of c.picks.lives) (chains_of c.args.slots.now.items) (chains_of c.picks.slots.items) h.chains quiet c.picks.invariant.lasts;
      housed = c.picks.invariant.housed;
      few = c.picks.invariant.few;
      stays = c.picks.invariant.stays;
    }

pub next-at-requires-clause-rising : goal.next-at-requires-clause-rising
next-at-requires-clause-rising g c = rises_as (slot_flags (seens_of c.picks.lives) (chains_of c.picks.slots.items)) c.deref-in-picks.result.now (c.deref-in-picks.ensures.value ∙ c.picks.invariant.list)

pub next-at-requires-clause-below : goal.next-at-requires-clause-below
next-at-requires-clause-below g c =
    let h = c.picks.invariant.housed c.requires.housed.0 c.requires.housed.1 in
    slots_below (seens_of c.picks.lives) c.picks.slots.items c.deref-in-picks.result.now (c.deref-in-picks.ensures.value ∙ c.picks.invariant.list) h.slots

pub pick_ready-requires : goal.pick_ready-requires
pick_ready-requires g c =
    let xs = c.picks.ready.items in
    let within : c.next-at.result < length xs = omega (arith, c.next-at.ensures.within, ap (length {A = ℕ}) c.deref-in-picks.ensures.value) in
    let at : slice_get xs c.next-at.result ≡ Some c.index-w.result.now = slice_get_read xs (length xs) c.next-at.result c.index-w.result.now refl within c.index-w.ensures in
    record {
      slice = c.requires.slice;
      housed = (c.requires.housed.0, c.picks.invariant.housed c.requires.housed.0 c.requires.housed.1);
      standing = c.picks.invariant.stays.standing c.requires.standing;
      list = c.picks.invariant.list;
      ready = (c.next-at.result, at);
    }

pub returns-in_err-pick_ready-clause-stays : goal.returns-in_err-pick_ready-clause-stays
returns-in_err-pick_ready-clause-stays g c = slots_then c.args.lives.now c.picks.lives c.pick_ready.new.lives c.args.slots.now.items c.picks.slots.items c.pick_ready.new.slots.items c.picks.invariant.stays c.pick_ready.ensures.stays

pub returns-in_err-pick_ready-clause-passes : goal.returns-in_err-pick_ready-clause-passes
returns-in_err-pick_ready-clause-passes g c = picks_more c.args.slice c.args.lives.now c.picks.lives _ c.args.slots.now c.picks.slots _ c.from_residual-in_err-pick_ready.result c.from_residual-in_err-pick_ready.ensures.0 c.picks.invariant.picks c.in_err-pick_ready.ensures.stops

pub returns-in_err-ready-clause-passes : goal.returns-in_err-ready-clause-passes
returns-in_err-ready-clause-passes g c =
    picks_more c.args.slice c.args.lives.now c.args.lives.now _ c.args.slots.now c.args.slots.now _ c.from_residual.result c.from_residual.ensures.0 no_pick
    (picks_stop c.args.slice c.args.lives.now c.args.lives.now c.args.lives.now c.args.slots.now c.args.slots.now c.args.slots.now no_pick (wants_here c.args.lives.now c.args.slots.now.items))

pub picks-smaller : goal.picks-smaller
picks-smaller g c =
    let xs = c.picks.ready.items in
    let within : c.next-at.result < length xs = omega (arith, c.next-at.ensures.within, ap (length {A = ℕ}) c.deref-in-picks.ensures.value) in
    let at : slice_get xs c.next-at.result ≡ Some c.index-w.result.now = slice_get_read xs (length xs) c.next-at.result c.index-w.result.now refl within c.index-w.ensures in
    slots_lighter c.index-w.result.now c.args.slice c.in_ok-pick_ready.field-0 _ _ _ _ _ _ xs c.next-at.result c.in_ok-pick_ready.ensures.picked c.picks.invariant.list at

pub picks-preserved : goal.picks-preserved
picks-preserved g c =
    let born = c.requires.housed.0 in
    let h = c.picks.invariant.housed born c.requires.housed.1 in
    let homes = homes_of c.args.lives.now.places.items in
    let cs = chains_of c.picks.slots.items in
    let xs = c.picks.ready.items in
    let list = c.picks.invariant.list in
    let within : c.next-at.result < length xs = omega (arith, c.next-at.ensures.within, ap (length {A = ℕ}) c.deref-in-picks.ensures.value) in
    let at : slice_get xs c.next-at.result ≡ Some c.index-w.result.now = slice_get_read xs (length xs) c.next-at.result c.index-w.result.now refl within c.index-w.ensures in
    let there = slot_there (seens_of c.picks.lives) c.picks.slots.items xs c.next-at.result c.index-w.result.now list at in
    let chains : Chains homes born 0 cs = subst (λ hs. Chains hs born 0 cs) c.picks.invariant.stays.lives.homes h.chains in
    record {
      settled = slots_on c.args.slice c.index-w.result.now homes born (chains_of c.args.slots.now.items) cs (chains_of c.pick_ready.new.slots.items) (seens_of c.args.lives.now) (seens_of c.picks.lives) (seens_of c.pick_ready.new.lives) c.args.lives.now.journal.items c.picks.lives.journal.items c.pick_ready.new.lives.journal.items _ _ _ _ _ _ c.deref-in-picks.result.now c.next-at.result (omega (arith, there, h.slots)) chains c.in_ok-pick_ready.field-0 c.picks.invariant.settled c.in_ok-pick_ready.ensures.picked (c.deref-in-picks.ensures.value ∙ list) (ap (λ ys. slice_get ys c.next-at.result) c.deref-in-picks.ensures.value ∙ at) c.next-at.ensures.kept c.next-at.ensures.room;
      list = c.in_ok-pick_ready.ensures.list;
      housed = λ b hb. c.in_ok-pick_ready.ensures.housed b (c.picks.invariant.housed b hb);
      few = λ n f. c.in_ok-pick_ready.ensures.few n (c.picks.invariant.few n f);
      picks = one_pick c.picks.invariant.picks c.in_ok-pick_ready.ensures.picked (owns_fine c.pick_ready.new.lives.shared 0 c.pick_ready.new.lives.places.items (c.in_ok-pick_ready.ensures.housed born h).lives.fine);
      stays = slots_then c.args.lives.now c.picks.lives c.pick_ready.new.lives c.args.slots.now.items c.picks.slots.items c.pick_ready.new.slots.items c.picks.invariant.stays c.pick_ready.ensures.stays;
      lasts = lasts_picked c.index-w.result.now c.args.slice c.in_ok-pick_ready.field-0 c.picks.lives c.pick_ready.new.lives c.picks.slots.items c.pick_ready.new.slots.items c.in_ok-pick_ready.ensures.picked ∙ c.picks.invariant.lasts;
    }
