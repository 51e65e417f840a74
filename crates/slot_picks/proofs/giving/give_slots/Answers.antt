use Rattle.std.proofs.Common.{◌≡◌, ◌<◌, ◌≤◌, ◌∙◌, ℕ, List, Some, ap, arith, length, map, refl, subst, sym, take, vec_len}
use Rattle.std.specs.Prelude.{slice_get}
use Rattle.std.specs.declared.alloc.Global.{Global}
use Rattle.std.specs.declared.vec.Vec.{Vec}
use Rattle.std.proofs.lemmas.List.{length-map}
use Rattle.std.proofs.lemmas.Option.{slice_get_read}
use Rattle.post_rounds.specs.declared.posts.Post.{Post}
use Rattle.post_rounds.specs.declared.posts.PostEvent.{PostEvent}
use Rattle.post_rounds.specs.Events.{values}
use Rattle.life_laws.specs.Chains.{last_life}
use Rattle.slot_picks.specs.declared.slots.Slot.{Slot}
use Rattle.slot_picks.specs.Lives.{chains_of}
use Rattle.slot_picks.specs.Places.{homes_of}
use Rattle.slot_picks.specs.Feeding.{events_for}
use Rattle.slot_picks.proofs.Gathering.{map_get, some_get}
use Rattle.slot_picks.proofs.Looping.{not_last}
use Rattle.slot_picks.proofs.Lasts.{chain_get, slot_some, slot_there}
use Rattle.slot_picks.proofs.Rounds.{alike_here, alike_then, all_slots, few_here, length_alike, no_slot, room_then, slot_round}
use Rattle.slot_picks.proofs.giving.give_slots.Goals as goal

pub slots-init : goal.slots-init
slots-init c = record { given = no_slot c.args.places.now.items; alike = alike_here c.args.places.now.items; others = λ v out. refl }

pub bounds-fresh-w : goal.bounds-fresh-w
bounds-fresh-w c = subst (λ (n : ℕ). c.slots.w < n) (sym c.requires.fresh) c.slots-test.true

pub overflow_cast-taken : goal.overflow_cast-taken
overflow_cast-taken c =
    let ls = c.args.places.now.items in
    let ss = c.args.slots.now in
    let s = some_get ss c.slots.w c.slots-test.true in
    let fs = c.args.fresh.now in
    let inside : c.slots.w < length fs = subst (λ (n : ℕ). c.slots.w < n) (sym c.requires.fresh) c.slots-test.true in
    let here : slice_get fs c.slots.w ≡ Some c.index-fresh-w.result = slice_get_read fs (length fs) c.slots.w c.index-fresh-w.result refl inside c.index-fresh-w.is in
    let same : vec_len c.index-fresh-w.result ≡ length c.index-fresh-w.result.items = omega arith in
    let count : slice_get (map (λ (x : Vec Post Global). length x.items) fs) c.slots.w ≡ Some c.len-taken.result = map_get (λ (x : Vec Post Global). length x.items) fs c.slots.w c.index-fresh-w.result here ∙ ap Some (sym (c.len-taken.ensures ∙ same)) in
    let few = few_here ls (map (λ (x : Vec Post Global). length x.items) fs) c.slots.w (last_life s.0.lives.items) c.len-taken.result c.requires.room
    (slot_there (homes_of ls) c.requires.born.0 (length ls) c.slots.w ss s.0 c.requires.born.2 c.requires.born.1 s.1) count in
    omega (arith, few)

pub bounds-events-w : goal.bounds-events-w
bounds-events-w c = subst (λ (n : ℕ). c.slots.w < n) (sym c.requires.events) c.slots-test.true

pub give_slot-requires-clause-kind : goal.give_slot-requires-clause-kind
give_slot-requires-clause-kind c = c.requires.kind

pub give_slot-requires-clause-some : goal.give_slot-requires-clause-some
give_slot-requires-clause-some c =
    let ss = c.args.slots.now in
    let at : slice_get ss c.slots.w ≡ Some c.index-slots-w.result = slice_get_read ss (length ss) c.slots.w c.index-slots-w.result refl c.slots-test.true c.index-slots-w.is in
    let list : c.deref.result.now ≡ c.index-slots-w.result.lives.items = c.deref.ensures.value ∙ ap (λ (s : Slot). s.lives.items) (sym c.index-slots-w.is) in
    subst (λ (vs : List ℕ). 0 < length vs) (sym list) (slot_some (homes_of c.args.places.now.items) c.requires.born.0 c.slots.w ss c.index-slots-w.result c.requires.born.2 at)

pub give_slot-requires-clause-there : goal.give_slot-requires-clause-there
give_slot-requires-clause-there c =
    let ls = c.args.places.now.items in
    let ms = c.slots.places.items in
    let ss = c.args.slots.now in
    let at : slice_get ss c.slots.w ≡ Some c.index-slots-w.result = slice_get_read ss (length ss) c.slots.w c.index-slots-w.result refl c.slots-test.true c.index-slots-w.is in
    let list : c.deref.result.now ≡ c.index-slots-w.result.lives.items = c.deref.ensures.value ∙ ap (λ (s : Slot). s.lives.items) (sym c.index-slots-w.is) in
    let long : length ms ≡ length ls = length_alike ls ms c.slots.invariant.alike in
    let few : c.requires.born.0 ≤ length ms = omega (arith, long, c.requires.born.1) in
    subst (λ (vs : List ℕ). last_life vs < length ms) (sym list) (slot_there (homes_of ls) c.requires.born.0 (length ms) c.slots.w ss c.index-slots-w.result c.requires.born.2 few at)

pub give_slot-requires-clause-room : goal.give_slot-requires-clause-room
give_slot-requires-clause-room c = λ p there.
    (let ls = c.args.places.now.items in
    let ms = c.slots.places.items in
    let cs = chains_of c.args.slots.now in
    let es = map (λ (x : Vec PostEvent Global). values x.items) c.args.events.now in
    let fs = c.args.fresh.now in
    let inside : c.slots.w < length fs = subst (λ (n : ℕ). c.slots.w < n) (sym c.requires.fresh) c.slots-test.true in
    let here : slice_get fs c.slots.w ≡ Some c.index-fresh-w.result = slice_get_read fs (length fs) c.slots.w c.index-fresh-w.result refl inside c.index-fresh-w.is in
    let same : vec_len c.index-fresh-w.result ≡ length c.index-fresh-w.result.items = omega arith in
    let count : slice_get (map (λ (x : Vec Post Global). length x.items) fs) c.slots.w ≡ Some c.len-taken.result = map_get (λ (x : Vec Post Global). length x.items) fs c.slots.w c.index-fresh-w.result here ∙ ap Some (sym (c.len-taken.ensures ∙ same)) in
    room_then (events_for (take c.slots.w cs) (take c.slots.w es)) cs (map (λ (x : Vec Post Global). length x.items) fs) c.slots.w (last_life c.deref.result.now) c.len-taken.result ls ms p c.requires.room c.slots.invariant.given there count)

pub returns-in_err-give_slot-clause-alike : goal.returns-in_err-give_slot-clause-alike
returns-in_err-give_slot-clause-alike c = alike_then c.args.places.now.items c.slots.places.items c.give_slot.new.places.items c.slots.invariant.alike c.give_slot.ensures.alike

pub returns-in_err-give_slot-clause-others : goal.returns-in_err-give_slot-clause-others
returns-in_err-give_slot-clause-others c =
    let ss = c.args.slots.now in
    let at : slice_get ss c.slots.w ≡ Some c.index-slots-w.result = slice_get_read ss (length ss) c.slots.w c.index-slots-w.result refl c.slots-test.true c.index-slots-w.is in
    let list : c.deref.result.now ≡ c.index-slots-w.result.lives.items = c.deref.ensures.value ∙ ap (λ (s : Slot). s.lives.items) (sym c.index-slots-w.is) in
    λ v out. c.give_slot.ensures.others v (not_last v c.slots.w (chains_of ss) c.deref.result.now (chain_get ss c.slots.w c.index-slots-w.result at ∙ ap Some (sym list)) out) ∙ c.slots.invariant.others v out

pub slots-preserved : goal.slots-preserved
slots-preserved c =
    let ls = c.args.places.now.items in
    let ms = c.slots.places.items in
    let es = c.args.events.now in
    let ss = c.args.slots.now in
    let at : slice_get ss c.slots.w ≡ Some c.index-slots-w.result = slice_get_read ss (length ss) c.slots.w c.index-slots-w.result refl c.slots-test.true c.index-slots-w.is in
    let list : c.deref.result.now ≡ c.index-slots-w.result.lives.items = c.deref.ensures.value ∙ ap (λ (s : Slot). s.lives.items) (sym c.index-slots-w.is) in
    let fs = c.args.fresh.now in
    let inside : c.slots.w < length fs = subst (λ (n : ℕ). c.slots.w < n) (sym c.requires.fresh) c.slots-test.true in
    let here : slice_get fs c.slots.w ≡ Some c.index-fresh-w.result = slice_get_read fs (length fs) c.slots.w c.index-fresh-w.result refl inside c.index-fresh-w.is in
    let same : vec_len c.index-fresh-w.result ≡ length c.index-fresh-w.result.items = omega arith in
    let count : slice_get (map (λ (x : Vec Post Global). length x.items) fs) c.slots.w ≡ Some c.len-taken.result = map_get (λ (x : Vec Post Global). length x.items) fs c.slots.w c.index-fresh-w.result here ∙ ap Some (sym (c.len-taken.ensures ∙ same)) in
    let within : c.slots.w < length es = subst (λ (n : ℕ). c.slots.w < n) (sym c.requires.events) c.slots-test.true in
    let event : slice_get es c.slots.w ≡ Some c.index-events-w.result = slice_get_read es (length es) c.slots.w c.index-events-w.result refl within c.index-events-w.is in
    let told_list : c.deref-in-slots.result.now ≡ c.index-events-w.result.items = c.deref-in-slots.ensures.value in
    record {
      given = slot_round c.slots.w (chains_of ss) (map (λ (x : Vec PostEvent Global). values x.items) es) (map (λ (x : Vec Post Global). length x.items) fs)
          c.deref.result.now (values c.deref-in-slots.result.now) c.len-taken.result ls ms c.give_slot.new.places.items
          (chain_get ss c.slots.w c.index-slots-w.result at ∙ ap Some (sym list))
          (map_get (λ (x : Vec PostEvent Global). values x.items) es c.slots.w c.index-events-w.result event ∙ ap (λ (xs : List PostEvent). Some (values xs)) (sym told_list))
          count c.slots.invariant.given c.in_ok-give_slot.ensures.given;
      alike = alike_then ls ms c.give_slot.new.places.items c.slots.invariant.alike c.give_slot.ensures.alike;
      others = λ v out. c.give_slot.ensures.others v (not_last v c.slots.w (chains_of ss) c.deref.result.now (chain_get ss c.slots.w c.index-slots-w.result at ∙ ap Some (sym list)) out) ∙ c.slots.invariant.others v out;
    }

pub returns-clause-given : goal.returns-clause-given
returns-clause-given c =
    let ss = c.args.slots.now in
    let es = c.args.events.now in
    let fs = c.args.fresh.now in
    let slots = length-map ss (λ (s : Slot). s.lives.items) in
    let events = length-map es (λ (x : Vec PostEvent Global). values x.items) in
    let fresh = length-map fs (λ (x : Vec Post Global). length x.items) in
    all_slots c.slots.w (chains_of ss) (map (λ (x : Vec PostEvent Global). values x.items) es) (map (λ (x : Vec Post Global). length x.items) fs) c.args.places.now.items c.slots.places.items
    (omega (arith, slots, c.slots-test.false)) (omega (arith, events, c.requires.events, c.slots-test.false)) (omega (arith, fresh, c.requires.fresh, c.slots-test.false)) c.slots.invariant.given

pub returns-clause-alike : goal.returns-clause-alike
returns-clause-alike c = c.slots.invariant.alike

pub returns-clause-others : goal.returns-clause-others
returns-clause-others c = c.slots.invariant.others
