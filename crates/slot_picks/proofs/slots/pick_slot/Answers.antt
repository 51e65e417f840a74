use Rattle.std.proofs.Common.{◌≡◌, ◌<◌, ◌∙◌, refl, sym, arith, length, drop, subst, List, ℕ, Some}
use Rattle.std.specs.Prelude.{slice_get}
use Rattle.std.proofs.lemmas.Option.{slice_get_read}
use Rattle.life_laws.specs.Life.{Seen}
use Rattle.life_laws.specs.Chains.{PickedIn}
use Rattle.life_laws.specs.Slots.{Passed}
use Rattle.life_laws.proofs.Passing.{passed_none}
use Rattle.slot_picks.specs.Lives.{chains_of, seens_of}
use Rattle.slot_picks.specs.Places.{homes_of}
use Rattle.slot_picks.proofs.Housing.{housed_picked}
use Rattle.slot_picks.proofs.Following.{beside_slot, chain_there, chains_here, chains_next, is_there, lives_at, lives_here, lives_next, lives_there, more_left, one_left, present_is, same_journal, shorter, slot_done, slot_on, two_left}
use Rattle.slot_picks.proofs.Picking.{on_err}
use Rattle.slot_picks.proofs.Slotted.{names_many, slots_here, slots_picked, slots_then}
use Rattle.slot_picks.proofs.slots.pick_slot.Goals as goal

pub swaps-init : goal.swaps-init
swaps-init c =
    let ss0 = c.args.slots.now.items in
    let chain = chain_there (homes_of c.args.lives.now.places.items) c.requires.housed.0 c.args.w ss0 c.requires.there c.requires.housed.1.chains in
    record {
      passed = passed_none (lives_at c.args.w ss0) (seens_of c.args.lives.now) c.args.lives.now.journal.items;
      chains = chains_here c.args.w ss0;
      journal = refl;
      some = chain.some;
      fine = c.requires.housed.1.lives;
      few = λ n h. h;
      stays = slots_here c.args.lives.now ss0;
    }

pub index-requires : goal.index-requires
index-requires c =
    let lt = names_many c.args.slots.now.items c.swaps.slots.items c.swaps.invariant.stays.names in
    omega (arith, c.requires.there, lt, c.swaps.slots.ok.0)

pub present-v-requires : goal.present-v-requires
present-v-requires c =
    let ss0 = c.args.slots.now.items in
    let w = c.args.w in
    let ss = c.swaps.slots.items in
    let inv = c.swaps.invariant in
    let lt : w < length ss = omega (arith, c.requires.there, names_many ss0 ss inv.stays.names) in
    let s = c.index.result.now in
    let at : slice_get ss w ≡ Some s = slice_get_read ss (length ss) w s refl lt c.index.ensures in
    let is : c.deref.result.now ≡ lives_at w ss = c.deref.ensures.value ∙ sym (lives_here w ss s at) in
    subst (λ (xs : List ℕ). 0 < length xs) (sym is) inv.some

pub pick_kept-requires-clause-there : goal.pick_kept-requires-clause-there
pick_kept-requires-clause-there c =
    let ss0 = c.args.slots.now.items in
    let w = c.args.w in
    let ss = c.swaps.slots.items in
    let inv = c.swaps.invariant in
    let lt : w < length ss = omega (arith, c.requires.there, names_many ss0 ss inv.stays.names) in
    let s = c.index.result.now in
    let at : slice_get ss w ≡ Some s = slice_get_read ss (length ss) w s refl lt c.index.ensures in
    let is : c.deref.result.now ≡ lives_at w ss = c.deref.ensures.value ∙ sym (lives_here w ss s at) in
    let v = c.present-v.result in
    let here = present_is c.deref.result.now (lives_at w ss) v is c.present-v.ensures in
    let chain = chain_there (homes_of c.args.lives.now.places.items) c.requires.housed.0 w ss0 c.requires.there c.requires.housed.1.chains in
    let born = c.requires.housed.0 in
    let n : v < born = is_there (λ x. x < born) (lives_at w ss0) inv.passed.ended (lives_at w ss) (drop 1 (lives_at w ss)) v chain.below inv.passed.are here in
    omega (arith, n, c.requires.housed.1.few, inv.fine.places)

pub pick_kept-requires-clause-slice : goal.pick_kept-requires-clause-slice
pick_kept-requires-clause-slice c = c.requires.slice

pub pick_kept-requires-clause-fine : goal.pick_kept-requires-clause-fine
pick_kept-requires-clause-fine c = c.swaps.invariant.fine

pub returns-in_err-picked-clause-stays : goal.returns-in_err-picked-clause-stays
returns-in_err-picked-clause-stays c =
    let ss0 = c.args.slots.now.items in
    let ss = c.swaps.slots.items in
    let inv = c.swaps.invariant in
    slots_then c.args.lives.now c.swaps.lives c.pick_kept.new.lives ss0 ss ss inv.stays (slots_picked c.swaps.lives c.pick_kept.new.lives ss (omega (arith, inv.fine.places)) c.pick_kept.ensures.stays)

pub returns-in_err-picked-clause-beside : goal.returns-in_err-picked-clause-beside
returns-in_err-picked-clause-beside c =
    let ss0 = c.args.slots.now.items in
    let w = c.args.w in
    let ss = c.swaps.slots.items in
    let inv = c.swaps.invariant in
    let lt : w < length ss = omega (arith, c.requires.there, names_many ss0 ss inv.stays.names) in
    let s = c.index.result.now in
    let at : slice_get ss w ≡ Some s = slice_get_read ss (length ss) w s refl lt c.index.ensures in
    let is : c.deref.result.now ≡ lives_at w ss = c.deref.ensures.value ∙ sym (lives_here w ss s at) in
    let here = present_is c.deref.result.now (lives_at w ss) c.present-v.result is c.present-v.ensures in
    beside_slot w c.present-v.result c.args.lives.now c.swaps.lives c.pick_kept.new.lives ss0 ss c.args.lives.now.journal.items inv.passed inv.chains here c.pick_kept.ensures.others

pub returns-in_err-picked-clause-still : goal.returns-in_err-picked-clause-still
returns-in_err-picked-clause-still c = on_err c.from_residual.result (c.in_err-picked.ensures.still ∙ c.swaps.invariant.journal)

pub returns-in_default : goal.returns-in_default
returns-in_default c =
    let ss0 = c.args.slots.now.items in
    let w = c.args.w in
    let ss = c.swaps.slots.items in
    let inv = c.swaps.invariant in
    let lt : w < length ss = omega (arith, c.requires.there, names_many ss0 ss inv.stays.names) in
    let s = c.index.result.now in
    let at : slice_get ss w ≡ Some s = slice_get_read ss (length ss) w s refl lt c.index.ensures in
    let is : c.deref.result.now ≡ lives_at w ss = c.deref.ensures.value ∙ sym (lives_here w ss s at) in
    let v = c.present-v.result in
    let here = present_is c.deref.result.now (lives_at w ss) v is c.present-v.ensures in
    let chain = chain_there (homes_of c.args.lives.now.places.items) c.requires.housed.0 w ss0 c.requires.there c.requires.housed.1.chains in
    let picked : PickedIn w c.args.k c.in_ok-picked.picked (chains_of ss0) (chains_of ss) (seens_of c.args.lives.now) (seens_of c.pick_kept.new.lives) c.args.lives.now.journal.items c.pick_kept.new.lives.journal.items = record {
      lives = lives_at w ss0;
      left = lives_at w ss;
      at = lives_there w ss0 c.requires.there;
      set = inv.chains;
      slot = slot_done c.args.k c.in_ok-picked.picked (lives_at w ss0) _ _ _ c.args.lives.now.journal.items c.swaps.lives.journal.items c.pick_kept.new.lives.journal.items (lives_at w ss) v chain.rising inv.passed here inv.journal c.in_ok-picked.ensures.kept (λ i. absurd (c.in_default.not-Idle i));
    } in
    let stays = slots_then c.args.lives.now c.swaps.lives c.pick_kept.new.lives ss0 ss ss inv.stays (slots_picked c.swaps.lives c.pick_kept.new.lives ss (omega (arith, inv.fine.places)) c.in_ok-picked.ensures.stays) in
    record {
      picked = picked;
      housed = λ born h. housed_picked w c.args.k c.in_ok-picked.picked c.args.lives.now c.pick_kept.new.lives ss0 ss picked born c.in_ok-picked.ensures.fine stays.lives.homes h;
      few = λ n h. c.in_ok-picked.ensures.few n (inv.few n h);
      beside = beside_slot w v c.args.lives.now c.swaps.lives c.pick_kept.new.lives ss0 ss c.args.lives.now.journal.items inv.passed inv.chains here c.in_ok-picked.ensures.others;
      still = tt;
      stays = stays;
    }

pub returns-then-not-waits : goal.returns-then-not-waits
returns-then-not-waits c =
    let ss0 = c.args.slots.now.items in
    let w = c.args.w in
    let ss = c.swaps.slots.items in
    let inv = c.swaps.invariant in
    let lt : w < length ss = omega (arith, c.requires.there, names_many ss0 ss inv.stays.names) in
    let s = c.index.result.now in
    let at : slice_get ss w ≡ Some s = slice_get_read ss (length ss) w s refl lt c.index.ensures in
    let is : c.deref.result.now ≡ lives_at w ss = c.deref.ensures.value ∙ sym (lives_here w ss s at) in
    let v = c.present-v.result in
    let here = present_is c.deref.result.now (lives_at w ss) v is c.present-v.ensures in
    let chain = chain_there (homes_of c.args.lives.now.places.items) c.requires.housed.0 w ss0 c.requires.there c.requires.housed.1.chains in
    let s2 = c.index-in-swaps.result.now in
    let at2 : slice_get ss w ≡ Some s2 = slice_get_read ss (length ss) w s2 refl lt c.index-in-swaps.ensures in
    let is2 : c.deref-in-swaps.result.now ≡ lives_at w ss = c.deref-in-swaps.ensures.value ∙ sym (lives_here w ss s2 at2) in
    let picked : PickedIn w c.args.k c.in_ok-picked.picked (chains_of ss0) (chains_of ss) (seens_of c.args.lives.now) (seens_of c.pick_kept.new.lives) c.args.lives.now.journal.items c.pick_kept.new.lives.journal.items = record {
      lives = lives_at w ss0;
      left = lives_at w ss;
      at = lives_there w ss0 c.requires.there;
      set = inv.chains;
      slot = slot_done c.args.k c.in_ok-picked.picked (lives_at w ss0) _ _ _ c.args.lives.now.journal.items c.swaps.lives.journal.items c.pick_kept.new.lives.journal.items (lives_at w ss) v chain.rising inv.passed here inv.journal c.in_ok-picked.ensures.kept (λ i. one_left c.deref-in-swaps.result.now (lives_at w ss) c.waits.result is2 c.waits.ensures c.if-not-waits.true);
    } in
    let stays = slots_then c.args.lives.now c.swaps.lives c.pick_kept.new.lives ss0 ss ss inv.stays (slots_picked c.swaps.lives c.pick_kept.new.lives ss (omega (arith, inv.fine.places)) c.in_ok-picked.ensures.stays) in
    record {
      picked = picked;
      housed = λ born h. housed_picked w c.args.k c.in_ok-picked.picked c.args.lives.now c.pick_kept.new.lives ss0 ss picked born c.in_ok-picked.ensures.fine stays.lives.homes h;
      few = λ n h. c.in_ok-picked.ensures.few n (inv.few n h);
      beside = beside_slot w v c.args.lives.now c.swaps.lives c.pick_kept.new.lives ss0 ss c.args.lives.now.journal.items inv.passed inv.chains here c.in_ok-picked.ensures.others;
      still = tt;
      stays = stays;
    }

pub index-requires-in-swaps : goal.index-requires-in-swaps
index-requires-in-swaps c =
    let lt = names_many c.args.slots.now.items c.swaps.slots.items c.swaps.invariant.stays.names in
    omega (arith, c.requires.there, lt, c.swaps.slots.ok.0)

pub take_swap-requires-clause-there : goal.take_swap-requires-clause-there
take_swap-requires-clause-there c =
    let ss0 = c.args.slots.now.items in
    let w = c.args.w in
    let ss = c.swaps.slots.items in
    let inv = c.swaps.invariant in
    let lt : w < length ss = omega (arith, c.requires.there, names_many ss0 ss inv.stays.names) in
    lt

pub take_swap-requires-clause-waits : goal.take_swap-requires-clause-waits
take_swap-requires-clause-waits c =
    let ss0 = c.args.slots.now.items in
    let w = c.args.w in
    let ss = c.swaps.slots.items in
    let inv = c.swaps.invariant in
    let lt : w < length ss = omega (arith, c.requires.there, names_many ss0 ss inv.stays.names) in
    let s2 = c.index-in-swaps.result.now in
    let at2 : slice_get ss w ≡ Some s2 = slice_get_read ss (length ss) w s2 refl lt c.index-in-swaps.ensures in
    let is2 : c.deref-in-swaps.result.now ≡ lives_at w ss = c.deref-in-swaps.ensures.value ∙ sym (lives_here w ss s2 at2) in
    let two = two_left c.deref-in-swaps.result.now (lives_at w ss) c.waits.result is2 c.waits.ensures c.if-not-waits.false in
    λ x e. subst (λ (xs : List ℕ). 1 < length xs) (lives_here w ss x e) two

pub take_swap-requires-clause-fine : goal.take_swap-requires-clause-fine
take_swap-requires-clause-fine c = c.in_ok-picked.ensures.fine

pub take_swap-requires-clause-standing : goal.take_swap-requires-clause-standing
take_swap-requires-clause-standing c =
    let ss0 = c.args.slots.now.items in
    let ss = c.swaps.slots.items in
    let inv = c.swaps.invariant in
    let stays = slots_then c.args.lives.now c.swaps.lives c.pick_kept.new.lives ss0 ss ss inv.stays (slots_picked c.swaps.lives c.pick_kept.new.lives ss (omega (arith, inv.fine.places)) c.in_ok-picked.ensures.stays) in
    stays.standing c.requires.standing

pub swaps-smaller : goal.swaps-smaller
swaps-smaller c =
    let ss0 = c.args.slots.now.items in
    let w = c.args.w in
    let ss = c.swaps.slots.items in
    let inv = c.swaps.invariant in
    let lt : w < length ss = omega (arith, c.requires.there, names_many ss0 ss inv.stays.names) in
    shorter (lives_at w ss) (lives_at w c.take_swap.new.slots.items) (lives_next w ss c.take_swap.new.slots.items lt c.take_swap.ensures.chains) inv.some

pub swaps-preserved : goal.swaps-preserved
swaps-preserved c =
    let ss0 = c.args.slots.now.items in
    let w = c.args.w in
    let ss = c.swaps.slots.items in
    let inv = c.swaps.invariant in
    let lt : w < length ss = omega (arith, c.requires.there, names_many ss0 ss inv.stays.names) in
    let s = c.index.result.now in
    let at : slice_get ss w ≡ Some s = slice_get_read ss (length ss) w s refl lt c.index.ensures in
    let is : c.deref.result.now ≡ lives_at w ss = c.deref.ensures.value ∙ sym (lives_here w ss s at) in
    let v = c.present-v.result in
    let here = present_is c.deref.result.now (lives_at w ss) v is c.present-v.ensures in
    let chain = chain_there (homes_of c.args.lives.now.places.items) c.requires.housed.0 w ss0 c.requires.there c.requires.housed.1.chains in
    let s2 = c.index-in-swaps.result.now in
    let at2 : slice_get ss w ≡ Some s2 = slice_get_read ss (length ss) w s2 refl lt c.index-in-swaps.ensures in
    let is2 : c.deref-in-swaps.result.now ≡ lives_at w ss = c.deref-in-swaps.ensures.value ∙ sym (lives_here w ss s2 at2) in
    let ts = c.take_swap.new.slots.items in
    let new = c.take_swap.ensures in
    let next = lives_next w ss ts lt new.chains in
    let same = same_journal c.in_ok-picked.picked _ c.swaps.lives.journal.items c.pick_kept.new.lives.journal.items c.in-Idle.is c.in_ok-picked.ensures.kept.journal in
    let passed = slot_on c.args.k c.in_ok-picked.picked (lives_at w ss0) _ _ _ c.args.lives.now.journal.items c.swaps.lives.journal.items c.pick_kept.new.lives.journal.items (lives_at w ss) (lives_at w ts) v chain.rising inv.passed here inv.journal c.in_ok-picked.ensures.kept c.in-Idle.is same next in
    let stays = slots_then c.args.lives.now c.swaps.lives c.pick_kept.new.lives ss0 ss ss inv.stays (slots_picked c.swaps.lives c.pick_kept.new.lives ss (omega (arith, inv.fine.places)) c.in_ok-picked.ensures.stays) in
    record {
      passed = subst (λ (xs : List Seen). Passed (lives_at w ss0) (seens_of c.args.lives.now) xs c.args.lives.now.journal.items (lives_at w ts)) (sym new.seens) passed;
      chains = chains_next w ss0 ss ts lt new.chains inv.chains;
      journal = new.journal ∙ same ∙ inv.journal;
      some = more_left c.deref-in-swaps.result.now (lives_at w ss) (lives_at w ts) c.waits.result is2 c.waits.ensures c.if-not-waits.false next;
      fine = new.fine;
      few = λ n h. new.few n (c.in_ok-picked.ensures.few n (inv.few n h));
      stays = slots_then c.args.lives.now c.pick_kept.new.lives c.take_swap.new.lives ss0 ss ts stays new.stays;
    }
