use Rattle.std.proofs.Common.{◌<◌, ◌∙◌, ℕ, ap, length, subst, sym}
use Rattle.slot_picks.specs.Places.{is_accepted}
use Rattle.slot_picks.proofs.Gathering.{accepted_read, false_true, told_now, untold_now}
use Rattle.slot_picks.proofs.posting.is_told.Goals as goal

pub last_of-v-requires : goal.last_of-v-requires
last_of-v-requires c = c.requires.some

pub bounds-places-v : goal.bounds-places-v
bounds-places-v c = subst (λ (v : ℕ). v < length c.args.places.now) (sym c.last_of-v.ensures) c.requires.there

pub bounds-places-v-2 : goal.bounds-places-v-2
bounds-places-v-2 c = subst (λ (v : ℕ). v < length c.args.places.now) (sym c.last_of-v.ensures) c.requires.there

pub returns-then-places-v-clause-told : goal.returns-then-places-v-clause-told
returns-then-places-v-clause-told c = λ is.
    (let within : c.last_of-v.result < length c.args.places.now = subst (λ (v : ℕ). v < length c.args.places.now) (sym c.last_of-v.ensures) c.requires.there in (
      ap (is_accepted c.args.places.now) (sym c.last_of-v.ensures) ∙ (accepted_read c.args.places.now c.last_of-v.result c.index-places-v.result within ∙ c.if-places-v.true),
      told_now c.is_empty.result c.args.events.now c.is_empty.ensures is,
    ))

pub returns-then-places-v-clause-untold : goal.returns-then-places-v-clause-untold
returns-then-places-v-clause-untold c = λ is yes. untold_now c.is_empty.result c.args.events.now c.is_empty.ensures is

pub returns-else-places-v-clause-told : goal.returns-else-places-v-clause-told
returns-else-places-v-clause-told c = λ is. absurd (false_true (sym c.if-places-v.false ∙ is))

pub returns-else-places-v-clause-untold : goal.returns-else-places-v-clause-untold
returns-else-places-v-clause-untold c = λ is yes.
    (let within : c.last_of-v.result < length c.args.places.now = subst (λ (v : ℕ). v < length c.args.places.now) (sym c.last_of-v.ensures) c.requires.there in
    absurd (false_true (sym is ∙ (sym (accepted_read c.args.places.now c.last_of-v.result c.index-places-v.result within) ∙ (ap (is_accepted c.args.places.now) c.last_of-v.ensures ∙ yes)))))
