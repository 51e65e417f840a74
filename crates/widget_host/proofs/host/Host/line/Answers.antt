use Rattle.std.proofs.Common.{◌≡◌, ◌<◌, ◌∙◌, ℕ, List, Some, arith, false, length, subst, sym, true}
use Rattle.std.specs.Prelude.{slice_get}
use Rattle.std.proofs.lemmas.List.{length-map}
use Rattle.std.proofs.lemmas.Result.{IfOk-weaker}
use Rattle.slot_picks.specs.Places.{is_accepted}
use Rattle.slot_picks.specs.declared.slots.Slot.{Slot}
use Rattle.slot_picks.specs.Lives.{seens_of}
use Rattle.widget_host.specs.Housed.{IsHoused, accepts, chains, marked, present, seens}
use Rattle.widget_host.proofs.Shown.{life_there, present_at, some_lives}
use Rattle.widget_host.proofs.host.Host.line.Goals as goal

pub index-requires : goal.index-requires
unfolding chains
index-requires c = omega (arith, c.requires.there, length-map c.args.self.now.slots.items (λ (x : Slot). x.lives.items))

pub present-v-requires : goal.present-v-requires
unfolding IsHoused marked
present-v-requires c =
    subst (λ (vs : List ℕ). 0 < length vs) (sym c.deref.ensures.value) (some_lives c.args.self.now c.args.w c.index.result.now (c.requires.housed.1 c.if-self.false) c.requires.there c.index.ensures)

pub line_at-requires-clause-accepted : goal.line_at-requires-clause-accepted
unfolding IsHoused marked accepts
line_at-requires-clause-accepted c =
    let first : slice_get c.index.result.now.lives.items 0 ≡ Some c.present-v.result = subst (λ (vs : List ℕ). slice_get vs 0 ≡ Some c.present-v.result) c.deref.ensures.value c.present-v.ensures in
    subst (λ v. is_accepted c.args.self.now.lives.places.items v ≡ true) (present_at c.args.self.now c.args.w c.index.result.now (c.requires.housed.1 c.if-self.false) c.requires.there c.index.ensures c.present-v.result first) c.requires.accepted

pub line_at-requires-clause-there : goal.line_at-requires-clause-there
unfolding IsHoused marked accepts
line_at-requires-clause-there c =
    let first : slice_get c.index.result.now.lives.items 0 ≡ Some c.present-v.result = subst (λ (vs : List ℕ). slice_get vs 0 ≡ Some c.present-v.result) c.deref.ensures.value c.present-v.ensures in
    life_there c.args.self.now.lives c.present-v.result
    (subst (λ v. is_accepted c.args.self.now.lives.places.items v ≡ true) (present_at c.args.self.now c.args.w c.index.result.now (c.requires.housed.1 c.if-self.false) c.requires.there c.index.ensures c.present-v.result first) c.requires.accepted)

pub line_at-requires-clause-fine : goal.line_at-requires-clause-fine
unfolding IsHoused marked
line_at-requires-clause-fine c = (c.requires.housed.1 c.if-self.false).slots.lives

pub returns-clause-line : goal.returns-clause-line
unfolding IsHoused marked seens
returns-clause-line c =
    let first : slice_get c.index.result.now.lives.items 0 ≡ Some c.present-v.result = subst (λ (vs : List ℕ). slice_get vs 0 ≡ Some c.present-v.result) c.deref.ensures.value c.present-v.ensures in
    let same : present c.args.w (chains c.args.self.now) ≡ c.present-v.result = present_at c.args.self.now c.args.w c.index.result.now (c.requires.housed.1 c.if-self.false) c.requires.there c.index.ensures c.present-v.result first in
    IfOk-weaker c.line_at.result _ _ (λ r told x at.
    told x (subst (λ v. slice_get (seens_of c.args.self.now.lives) v ≡ Some x) same at)) c.line_at.ensures

pub returns-clause-marked : goal.returns-clause-marked
unfolding marked
returns-clause-marked c = λ is. absurd (let both : false ≡ true = sym c.if-self.false ∙ is in cc)
