use Rattle.std.proofs.Common.{◌≡◌, ◌<◌, ◌+◌, ◌++◌, ◌∙◌, ℕ, List, [], ◌∷◌, Some, ap, arith, length, refl, subst, sym}
use Rattle.std.specs.Prelude.{slice_get}
use Rattle.std.proofs.lemmas.List.{length-map}
use Rattle.std.proofs.lemmas.Option.{slice_get_read}
use Rattle.std.proofs.lemmas.Result.{on_ok_weaker}
use Rattle.life_laws.specs.Journal.{on_at}
use Rattle.life_laws.specs.Chains.{joins, last_at}
use Rattle.page_load.specs.Joining.{HasSeat, IsFree, KeepsRest}
use Rattle.slot_picks.specs.declared.slots.Slot.{Slot}
use Rattle.slot_picks.specs.Lives.{chains_of}
use Rattle.slot_picks.specs.Places.{homes_of}
use Rattle.widget_host.specs.declared.host.Host.{Host}
use Rattle.widget_host.specs.Housed.{chains, ends, given, marked, newborn, swaps}
use Rattle.widget_host.proofs.Bearing.{apart_born, coming_is, free_place, join_apart, join_stays, last_here, life_born, others_kept, slot_fuel, standing_alone, standing_failed, whole_born}
use Rattle.widget_host.proofs.Lasts.{slot_chain}
use Rattle.widget_host.proofs.host.Host.bear.Goals as goal

pub overflow_cast-v : goal.overflow_cast-v
unfolding ends
overflow_cast-v c = omega (arith, c.len.ensures, c.requires.few)

pub overflow_add-v : goal.overflow_add-v
unfolding ends
overflow_add-v c = omega (arith, c.len.ensures, c.requires.few)

pub index-requires : goal.index-requires
unfolding chains
index-requires c = omega (arith, c.requires.there, length-map c.args.self.now.slots.items (λ (x : Slot). x.lives.items))

pub index-slot-requires : goal.index-slot-requires
unfolding chains
index-slot-requires c = omega (arith, c.requires.there, length-map c.args.self.now.slots.items (λ (x : Slot). x.lives.items))

pub last_of-last-requires : goal.last_of-last-requires
unfolding chains
last_of-last-requires c =
    let ss = c.args.self.now.slots.items in
    let lt : c.args.to < length ss = omega (arith, c.requires.there, length-map ss (λ (x : Slot). x.lives.items)) in
    let at : slice_get ss c.args.to ≡ Some c.index.result.now = slice_get_read ss (length ss) c.args.to c.index.result.now refl lt c.index.ensures in
    subst (λ (vs : List ℕ). 0 < length vs) (sym c.deref.ensures.value) (slot_chain (homes_of c.args.self.now.lives.places.items) (16 + swaps c.args.self.now) 0 c.args.to ss c.index.result.now at c.requires.whole.slots.chains).some

pub add_life-requires-clause-number : goal.add_life-requires-clause-number
unfolding ends
add_life-requires-clause-number c = omega (arith, c.len.ensures, c.requires.few)

pub add_life-requires-clause-free : goal.add_life-requires-clause-free
unfolding ends
add_life-requires-clause-free c =
    let same : newborn c.args.self.now ≡ 16 + c.len.result = omega (arith, c.len.ensures) in
    subst (λ n. IsFree n c.args.self.now.lives) same (free_place c.args.self.now c.requires.apart c.requires.whole)

pub add_life-requires-clause-fuel : goal.add_life-requires-clause-fuel
unfolding chains
add_life-requires-clause-fuel c =
    let ss = c.args.self.now.slots.items in
    let lt : c.args.to < length ss = omega (arith, c.requires.there, length-map ss (λ (x : Slot). x.lives.items)) in
    slot_fuel c.args.self.now c.requires.whole c.args.to c.index-slot.result.now (slice_get_read ss (length ss) c.args.to c.index-slot.result.now refl lt c.index-slot.ensures)

pub add_life-requires-clause-fine : goal.add_life-requires-clause-fine
add_life-requires-clause-fine c = c.requires.whole.slots.lives

pub add_life-requires-clause-raws : goal.add_life-requires-clause-raws
add_life-requires-clause-raws c = c.requires.whole.raws

-- ## Where no life came

pub returns-in_err-add_life-clause-stays : goal.returns-in_err-add_life-clause-stays
unfolding ends
returns-in_err-add_life-clause-stays c =
    let old = c.args.self.now in
    let new : Host = record old { lives = c.add_life.new.lives } in
    let same : 16 + c.len.result ≡ newborn old = omega (arith, c.len.ensures) in
    others_kept old new c.requires.apart c.requires.whole (subst (λ n. KeepsRest n old.lives new.lives) same c.in_err-add_life.ensures.keeps) refl refl refl refl refl

pub returns-in_err-add_life-clause-apart : goal.returns-in_err-add_life-clause-apart
unfolding ends
returns-in_err-add_life-clause-apart c =
    let old = c.args.self.now in
    let new : Host = record old { lives = c.add_life.new.lives } in
    let same : 16 + c.len.result ≡ newborn old = omega (arith, c.len.ensures) in
    let keeps : KeepsRest (newborn old) old.lives new.lives = subst (λ n. KeepsRest n old.lives new.lives) same c.in_err-add_life.ensures.keeps in
    apart_born old new c.requires.apart c.requires.whole keeps refl refl refl refl refl
    (standing_failed old new c.requires.apart c.requires.whole c.requires.few keeps (subst (λ n. HasSeat n old.lives new.lives) same c.in_err-add_life.ensures.seat) refl)

pub returns-in_err-add_life-clause-given : goal.returns-in_err-add_life-clause-given
unfolding given
returns-in_err-add_life-clause-given c = refl

pub returns-in_err-add_life-clause-marked : goal.returns-in_err-add_life-clause-marked
unfolding marked
returns-in_err-add_life-clause-marked c = refl

-- ## Where it came, and its number was not kept

pub returns-in_err-push-clause-stays : goal.returns-in_err-push-clause-stays
unfolding ends
returns-in_err-push-clause-stays c =
    let old = c.args.self.now in
    let new : Host = record old { lives = c.add_life.new.lives; ends = c.push.new.self } in
    let same : 16 + c.len.result ≡ newborn old = omega (arith, c.len.ensures) in
    others_kept old new c.requires.apart c.requires.whole (subst (λ n. KeepsRest n old.lives new.lives) same c.in_ok-add_life.ensures.keeps) refl refl refl refl refl

pub returns-in_err-push-clause-apart : goal.returns-in_err-push-clause-apart
unfolding ends chains
returns-in_err-push-clause-apart c =
    let old = c.args.self.now in
    let new : Host = record old { lives = c.add_life.new.lives; ends = c.push.new.self } in
    let ss = old.slots.items in
    let lt : c.args.to < length ss = omega (arith, c.requires.there, length-map ss (λ (x : Slot). x.lives.items)) in
    let at : slice_get ss c.args.to ≡ Some c.index-slot.result.now = slice_get_read ss (length ss) c.args.to c.index-slot.result.now refl lt c.index-slot.ensures in
    let same : 16 + c.len.result ≡ newborn old = omega (arith, c.len.ensures) in
    let keeps : KeepsRest (newborn old) old.lives new.lives = subst (λ n. KeepsRest n old.lives new.lives) same c.in_ok-add_life.ensures.keeps in
    let comes = coming_is old c.index-slot.result.now c.args.to (16 + c.len.result) c.args.content old.lives new.lives c.deref-2.result.now same c.deref-2.ensures.value c.in_ok-add_life.ensures.comes in
    apart_born old new c.requires.apart c.requires.whole keeps refl refl refl refl refl
    (standing_alone old new c.args.to c.args.content c.index-slot.result.now at c.requires.apart c.requires.whole c.requires.few comes keeps refl refl)

pub returns-in_err-push-clause-given : goal.returns-in_err-push-clause-given
unfolding given
returns-in_err-push-clause-given c = refl

pub returns-in_err-push-clause-marked : goal.returns-in_err-push-clause-marked
unfolding marked
returns-in_err-push-clause-marked c = refl

-- ## Where it came

pub join-requires : goal.join-requires
unfolding chains
join-requires c = omega (arith, c.requires.there, length-map c.args.self.now.slots.items (λ (x : Slot). x.lives.items))

pub returns-clause-life : goal.returns-clause-life
unfolding ends chains
returns-clause-life c =
    let old = c.args.self.now in
    let new : Host = record old { lives = c.add_life.new.lives; slots = c.join.new.slots; ends = c.push.new.self } in
    let ss = old.slots.items in
    let lt : c.args.to < length ss = omega (arith, c.requires.there, length-map ss (λ (x : Slot). x.lives.items)) in
    let at : slice_get ss c.args.to ≡ Some c.index-slot.result.now = slice_get_read ss (length ss) c.args.to c.index-slot.result.now refl lt c.index-slot.ensures in
    let here : slice_get ss c.args.to ≡ Some c.index.result.now = slice_get_read ss (length ss) c.args.to c.index.result.now refl lt c.index.ensures in
    let same : 16 + c.len.result ≡ newborn old = omega (arith, c.len.ensures) in
    let keeps : KeepsRest (newborn old) old.lives new.lives = subst (λ n. KeepsRest n old.lives new.lives) same c.in_ok-add_life.ensures.keeps in
    let comes = coming_is old c.index-slot.result.now c.args.to (16 + c.len.result) c.args.content old.lives new.lives c.deref-2.result.now same c.deref-2.ensures.value c.in_ok-add_life.ensures.comes in
    let last : c.last_of-last.result ≡ last_at c.args.to (chains_of ss) = c.last_of-last.ensures ∙ last_here c.deref.result.now c.index.result.now ss c.args.to c.deref.ensures.value here in
    on_ok_weaker c.join.result (λ joined.
    life_born old new c.args.to c.args.content c.index-slot.result.now at c.requires.whole c.requires.few comes keeps
    (c.in_ok-push.ensures.items ∙ ap (λ v. old.ends.items ++ v ∷ []) last)
    (joined ∙ ap (λ v. on_at c.args.to (joins v) (chains_of ss)) same)
    c.join.ensures.names c.join.ensures.fuels refl refl) c.join.ensures.joins

pub returns-clause-whole : goal.returns-clause-whole
unfolding ends chains
returns-clause-whole c =
    let old = c.args.self.now in
    let new : Host = record old { lives = c.add_life.new.lives; slots = c.join.new.slots; ends = c.push.new.self } in
    let ss = old.slots.items in
    let lt : c.args.to < length ss = omega (arith, c.requires.there, length-map ss (λ (x : Slot). x.lives.items)) in
    let at : slice_get ss c.args.to ≡ Some c.index-slot.result.now = slice_get_read ss (length ss) c.args.to c.index-slot.result.now refl lt c.index-slot.ensures in
    let here : slice_get ss c.args.to ≡ Some c.index.result.now = slice_get_read ss (length ss) c.args.to c.index.result.now refl lt c.index.ensures in
    let same : 16 + c.len.result ≡ newborn old = omega (arith, c.len.ensures) in
    let keeps : KeepsRest (newborn old) old.lives new.lives = subst (λ n. KeepsRest n old.lives new.lives) same c.in_ok-add_life.ensures.keeps in
    let comes = coming_is old c.index-slot.result.now c.args.to (16 + c.len.result) c.args.content old.lives new.lives c.deref-2.result.now same c.deref-2.ensures.value c.in_ok-add_life.ensures.comes in
    let last : c.last_of-last.result ≡ last_at c.args.to (chains_of ss) = c.last_of-last.ensures ∙ last_here c.deref.result.now c.index.result.now ss c.args.to c.deref.ensures.value here in
    on_ok_weaker c.join.result (λ joined.
    whole_born old new c.args.to c.args.content c.index-slot.result.now at c.requires.whole c.requires.few comes keeps
    (c.in_ok-push.ensures.items ∙ ap (λ v. old.ends.items ++ v ∷ []) last)
    (joined ∙ ap (λ v. on_at c.args.to (joins v) (chains_of ss)) same)
    c.join.ensures.names c.join.ensures.fuels refl refl) c.join.ensures.joins

pub returns-clause-stays : goal.returns-clause-stays
unfolding ends chains
returns-clause-stays c =
    let old = c.args.self.now in
    let new : Host = record old { lives = c.add_life.new.lives; slots = c.join.new.slots; ends = c.push.new.self } in
    let same : 16 + c.len.result ≡ newborn old = omega (arith, c.len.ensures) in
    join_stays old new c.requires.apart c.requires.whole c.args.to (16 + c.len.result) same (subst (λ n. KeepsRest n old.lives new.lives) same c.in_ok-add_life.ensures.keeps) c.join.ensures.names c.join.ensures.fuels c.join.result c.join.ensures.joins c.join.ensures.same refl refl

pub returns-clause-apart : goal.returns-clause-apart
unfolding ends chains
returns-clause-apart c =
    let old = c.args.self.now in
    let new : Host = record old { lives = c.add_life.new.lives; slots = c.join.new.slots; ends = c.push.new.self } in
    let ss = old.slots.items in
    let lt : c.args.to < length ss = omega (arith, c.requires.there, length-map ss (λ (x : Slot). x.lives.items)) in
    let at : slice_get ss c.args.to ≡ Some c.index-slot.result.now = slice_get_read ss (length ss) c.args.to c.index-slot.result.now refl lt c.index-slot.ensures in
    let same : 16 + c.len.result ≡ newborn old = omega (arith, c.len.ensures) in
    let keeps : KeepsRest (newborn old) old.lives new.lives = subst (λ n. KeepsRest n old.lives new.lives) same c.in_ok-add_life.ensures.keeps in
    let comes = coming_is old c.index-slot.result.now c.args.to (16 + c.len.result) c.args.content old.lives new.lives c.deref-2.result.now same c.deref-2.ensures.value c.in_ok-add_life.ensures.comes in
    join_apart old new c.args.to c.args.content c.index-slot.result.now at c.requires.apart c.requires.whole c.requires.few (16 + c.len.result) same comes keeps c.join.ensures.names c.join.ensures.fuels c.join.result c.join.ensures.joins c.join.ensures.same refl refl

pub returns-clause-given : goal.returns-clause-given
unfolding given
returns-clause-given c = refl

pub returns-clause-marked : goal.returns-clause-marked
unfolding marked
returns-clause-marked c = refl
