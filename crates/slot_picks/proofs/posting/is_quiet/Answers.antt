use Rattle.std.proofs.Common.{◌≡◌, ◌≢◌, ◌<◌, ◌∙◌, ℕ, List, [], Some, ap, arith, length, map, refl, subst, sym}
use Rattle.std.specs.Prelude.{slice_get}
use Rattle.std.specs.declared.alloc.Global.{Global}
use Rattle.std.specs.declared.vec.Vec.{Vec}
use Rattle.std.proofs.lemmas.List.{length-map}
use Rattle.std.proofs.lemmas.Option.{slice_get_read}
use Rattle.post_rounds.specs.declared.posts.PostEvent.{PostEvent}
use Rattle.post_rounds.specs.Events.{values}
use Rattle.life_laws.specs.Chains.{last_life}
use Rattle.slot_picks.specs.declared.slots.Slot.{Slot}
use Rattle.slot_picks.specs.Lives.{chains_of}
use Rattle.slot_picks.specs.Places.{homes_of, is_accepted}
use Rattle.slot_picks.proofs.Gathering.{false_true, get_within, map_get, not_still, still_step}
use Rattle.slot_picks.proofs.Lasts.{chain_get, slot_some, slot_there}
use Rattle.slot_picks.proofs.posting.is_quiet.Goals as goal

pub slots-init : goal.slots-init
slots-init c = λ w d within at yes. absurd (omega (arith, within))

pub bounds-events-w : goal.bounds-events-w
bounds-events-w c = subst (λ (n : ℕ). c.slots.w < n) (sym c.requires.events) c.slots-test.true

pub is_told-requires-clause-some : goal.is_told-requires-clause-some
is_told-requires-clause-some c =
    let ss = c.args.slots.now in
    let at : slice_get ss c.slots.w ≡ Some c.index-slots-w.result = slice_get_read ss (length ss) c.slots.w c.index-slots-w.result refl c.slots-test.true c.index-slots-w.is in
    let list : c.deref.result.now ≡ c.index-slots-w.result.lives.items = c.deref.ensures.value ∙ ap (λ (s : Slot). s.lives.items) (sym c.index-slots-w.is) in
    subst (λ (vs : List ℕ). 0 < length vs) (sym list) (slot_some (homes_of c.args.places.now) c.requires.born.0 c.slots.w ss c.index-slots-w.result c.requires.born.2 at)

pub is_told-requires-clause-there : goal.is_told-requires-clause-there
is_told-requires-clause-there c =
    let ss = c.args.slots.now in
    let at : slice_get ss c.slots.w ≡ Some c.index-slots-w.result = slice_get_read ss (length ss) c.slots.w c.index-slots-w.result refl c.slots-test.true c.index-slots-w.is in
    let list : c.deref.result.now ≡ c.index-slots-w.result.lives.items = c.deref.ensures.value ∙ ap (λ (s : Slot). s.lives.items) (sym c.index-slots-w.is) in
    subst (λ (vs : List ℕ). last_life vs < length c.args.places.now) (sym list)
    (slot_there (homes_of c.args.places.now) c.requires.born.0 (length c.args.places.now) c.slots.w ss c.index-slots-w.result c.requires.born.2 c.requires.born.1 at)

pub returns-then-is_told-clause-quiet : goal.returns-then-is_told-clause-quiet
returns-then-is_told-clause-quiet c = λ e. absurd (false_true e)

pub returns-then-is_told-clause-loud : goal.returns-then-is_told-clause-loud
returns-then-is_told-clause-loud c = λ e still.
    (let ss = c.args.slots.now in
    let es = c.args.events.now in
    let at : slice_get ss c.slots.w ≡ Some c.index-slots-w.result = slice_get_read ss (length ss) c.slots.w c.index-slots-w.result refl c.slots-test.true c.index-slots-w.is in
    let list : c.deref.result.now ≡ c.index-slots-w.result.lives.items = c.deref.ensures.value ∙ ap (λ (s : Slot). s.lives.items) (sym c.index-slots-w.is) in
    let within : c.slots.w < length es = subst (λ (n : ℕ). c.slots.w < n) (sym c.requires.events) c.slots-test.true in
    let there : slice_get es c.slots.w ≡ Some c.index-events-w.result = slice_get_read es (length es) c.slots.w c.index-events-w.result refl within c.index-events-w.is in
    let told_list : c.deref-in-slots.result.now ≡ c.index-events-w.result.items = c.deref-in-slots.ensures.value in
    let told = c.is_told.ensures.told c.if-is_told.true in
    not_still (is_accepted c.args.places.now) (chains_of ss) (map (λ (x : Vec PostEvent Global). values x.items) es) c.slots.w c.index-slots-w.result.lives.items (values c.index-events-w.result.items)
    (chain_get ss c.slots.w c.index-slots-w.result at) (map_get (λ (x : Vec PostEvent Global). values x.items) es c.slots.w c.index-events-w.result there)
    (ap (λ (vs : List ℕ). is_accepted c.args.places.now (last_life vs)) (sym list) ∙ told.0)
    (subst (λ (xs : List PostEvent). values xs ≢ []) told_list told.1) still)

pub slots-preserved : goal.slots-preserved
slots-preserved c =
    let ss = c.args.slots.now in
    let es = c.args.events.now in
    let at : slice_get ss c.slots.w ≡ Some c.index-slots-w.result = slice_get_read ss (length ss) c.slots.w c.index-slots-w.result refl c.slots-test.true c.index-slots-w.is in
    let list : c.deref.result.now ≡ c.index-slots-w.result.lives.items = c.deref.ensures.value ∙ ap (λ (s : Slot). s.lives.items) (sym c.index-slots-w.is) in
    let within : c.slots.w < length es = subst (λ (n : ℕ). c.slots.w < n) (sym c.requires.events) c.slots-test.true in
    let there : slice_get es c.slots.w ≡ Some c.index-events-w.result = slice_get_read es (length es) c.slots.w c.index-events-w.result refl within c.index-events-w.is in
    let told_list : c.deref-in-slots.result.now ≡ c.index-events-w.result.items = c.deref-in-slots.ensures.value in
    let untold = c.is_told.ensures.untold c.if-is_told.false in
    still_step (is_accepted c.args.places.now) (chains_of ss) (map (λ (x : Vec PostEvent Global). values x.items) es) c.slots.w c.index-slots-w.result.lives.items (values c.index-events-w.result.items)
    (chain_get ss c.slots.w c.index-slots-w.result at) (map_get (λ (x : Vec PostEvent Global). values x.items) es c.slots.w c.index-events-w.result there)
    (λ yes. ap values (sym told_list) ∙ untold (ap (λ (vs : List ℕ). is_accepted c.args.places.now (last_life vs)) list ∙ yes)) c.slots.invariant

pub returns-clause-quiet : goal.returns-clause-quiet
returns-clause-quiet c = λ e w d there yes.
    (let within = get_within (chains_of c.args.slots.now) w d there in
    let same = length-map c.args.slots.now (λ (s : Slot). s.lives.items) in
    c.slots.invariant w d (omega (arith, within, same, c.slots-test.false)) there yes)

pub returns-clause-loud : goal.returns-clause-loud
returns-clause-loud c = λ e. absurd (false_true (sym e))
