use Rattle.std.proofs.Common.{◌≡◌, ◌+◌, ◌<◌, ◌∙◌, ℕ, List, Some, ap, arith, length, map, refl, subst, sym, take}
use Rattle.std.specs.Prelude.{slice_get}
use Rattle.std.specs.declared.alloc.Global.{Global}
use Rattle.std.specs.declared.vec.Vec.{Vec}
use Rattle.std.proofs.lemmas.List.{take_all}
use Rattle.std.proofs.lemmas.Option.{slice_get_read}
use Rattle.post_rounds.specs.declared.posts.Post.{Post}
use Rattle.life_laws.specs.Chains.{last_life}
use Rattle.slot_picks.specs.declared.slots.Slot.{Slot}
use Rattle.slot_picks.specs.Lives.{chains_of}
use Rattle.slot_picks.specs.Places.{homes_of}
use Rattle.slot_picks.specs.Posting.{fresh_of_lasts}
use Rattle.slot_picks.proofs.Gathering.{fresh_step}
use Rattle.slot_picks.proofs.Lasts.{slot_some, slot_there}
use Rattle.slot_picks.proofs.posting.all_fresh.Goals as goal

pub last_of-v-requires : goal.last_of-v-requires
last_of-v-requires c =
    let ss = c.args.slots.now in
    let at : slice_get ss c.slots.slot-index ≡ Some c.slot-item.result = slice_get_read ss (length ss) c.slots.slot-index c.slot-item.result refl c.slots-test.true c.slot-item.is in
    subst (λ (vs : List ℕ). 0 < length vs) (sym c.deref.ensures.value) (slot_some (homes_of c.args.places.now) c.requires.born.0 c.slots.slot-index ss c.slot-item.result c.requires.born.2 at)

pub bounds-places-v : goal.bounds-places-v
bounds-places-v c =
    let ss = c.args.slots.now in
    let at : slice_get ss c.slots.slot-index ≡ Some c.slot-item.result = slice_get_read ss (length ss) c.slots.slot-index c.slot-item.result refl c.slots-test.true c.slot-item.is in
    subst (λ (v : ℕ). v < length c.args.places.now) (sym (c.last_of-v.ensures ∙ ap last_life c.deref.ensures.value))
    (slot_there (homes_of c.args.places.now) c.requires.born.0 (length c.args.places.now) c.slots.slot-index ss c.slot-item.result c.requires.born.2 c.requires.born.1 at)

pub slots-preserved : goal.slots-preserved
slots-preserved c =
    let ss = c.args.slots.now in
    let ps = c.args.places.now in
    let at : slice_get ss c.slots.slot-index ≡ Some c.slot-item.result = slice_get_read ss (length ss) c.slots.slot-index c.slot-item.result refl c.slots-test.true c.slot-item.is in
    let last : c.last_of-v.result ≡ last_life c.slot-item.result.lives.items = c.last_of-v.ensures ∙ ap last_life c.deref.ensures.value in
    let within : c.last_of-v.result < length ps = subst (λ (v : ℕ). v < length ps) (sym last) (slot_there (homes_of ps) c.requires.born.0 (length ps) c.slots.slot-index ss c.slot-item.result c.requires.born.2 c.requires.born.1 at) in
    let there : slice_get ps c.last_of-v.result ≡ Some c.index-places-v.result = slice_get_read ps (length ps) c.last_of-v.result c.index-places-v.result refl within c.index-places-v.is in
    subst (λ (xs : List (Vec Post Global)). map (λ (x : Vec Post Global). x.items) xs ≡ fresh_of_lasts ps (chains_of (take (c.slots.slot-index + 1) ss))) (sym c.in_ok-push.ensures.items)
    (fresh_step ps ss c.slots.slot-index c.last_of-v.result c.slot-item.result c.index-places-v.result c.slots.all.items c.in_ok-fresh_of.field-0 at last there c.in_ok-fresh_of.ensures c.slots.invariant)

pub returns : goal.returns
returns c = c.slots.invariant ∙ ap (λ (ss : List Slot). fresh_of_lasts c.args.places.now (chains_of ss)) (take_all c.slots.slot-index c.args.slots.now (omega (arith, c.slots-test.false)))
