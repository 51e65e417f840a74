use Rattle.std.proofs.Common.{◌≡◌, ◌<◌, ◌∙◌, refl, arith, length, ap, Some, sym, subst, List, ℕ}
use Rattle.std.specs.Prelude.{slice_get}
use Rattle.std.proofs.lemmas.Option.{slice_get_read}
use Rattle.life_laws.specs.Slots.{Each, slot_ready}
use Rattle.life_laws.proofs.Passing.{each_map}
use Rattle.slot_picks.specs.declared.lives.Place.{Place}
use Rattle.slot_picks.specs.declared.slots.Slot.{Slot}
use Rattle.slot_picks.specs.Lives.{seens_of}
use Rattle.slot_picks.specs.Places.{homes_of, seens_from}
use Rattle.slot_picks.proofs.Chained.{chain_of}
use Rattle.slot_picks.proofs.Settles.{same_slot}
use Rattle.slot_picks.proofs.ready.is_ready_at.Goals as goal

pub slot_is_ready-requires-clause-some : goal.slot_is_ready-requires-clause-some
slot_is_ready-requires-clause-some c =
    let ss = c.args.slots.now in
    let at : slice_get ss c.args.w ≡ Some c.index-slots-w.result = slice_get_read ss (length ss) c.args.w c.index-slots-w.result refl c.requires.there c.index-slots-w.is in
    let P : List ℕ → Type 0 = λ xs. 0 < length xs in
    subst P (sym (c.deref-2.ensures.value ∙ ap (λ (s : Slot). s.lives.items) (sym c.index-slots-w.is)))
    (chain_of (homes_of c.args.lives.now.places.items) c.requires.housed.0 c.args.w ss c.index-slots-w.result at c.requires.housed.1.chains).some

pub slot_is_ready-requires-clause-there : goal.slot_is_ready-requires-clause-there
slot_is_ready-requires-clause-there c =
    let ss = c.args.slots.now in
    let at : slice_get ss c.args.w ≡ Some c.index-slots-w.result = slice_get_read ss (length ss) c.args.w c.index-slots-w.result refl c.requires.there c.index-slots-w.is in
    let P : List ℕ → Type 0 = λ xs. Each (λ v. v < length c.deref.result.now) xs in
    let long = ap (length {A = Place}) c.deref.ensures.value in
    subst P (sym (c.deref-2.ensures.value ∙ ap (λ (s : Slot). s.lives.items) (sym c.index-slots-w.is)))
    (each_map (λ v. v < c.requires.housed.0) (λ v. v < length c.deref.result.now) c.index-slots-w.result.lives.items (λ v l. omega (arith, l, long, c.requires.housed.1.few, c.requires.housed.1.lives.places))
    (chain_of (homes_of c.args.lives.now.places.items) c.requires.housed.0 c.args.w ss c.index-slots-w.result at c.requires.housed.1.chains).below)

pub returns : goal.returns
returns c =
    let ss = c.args.slots.now in
    let at : slice_get ss c.args.w ≡ Some c.index-slots-w.result = slice_get_read ss (length ss) c.args.w c.index-slots-w.result refl c.requires.there c.index-slots-w.is in
    λ s e. c.slot_is_ready.ensures c.args.lives.now.shared
    ∙ (ap (λ ls. slot_ready (seens_from c.args.lives.now.shared 0 ls) c.deref-2.result.now) c.deref.ensures.value
    ∙ ap (slot_ready (seens_of c.args.lives.now)) ((c.deref-2.ensures.value ∙ ap (λ (s : Slot). s.lives.items) (sym c.index-slots-w.is)) ∙ ap (λ (s : Slot). s.lives.items) (same_slot _ c.index-slots-w.result s at e)))
