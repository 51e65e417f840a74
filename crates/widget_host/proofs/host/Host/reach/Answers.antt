use Rattle.std.proofs.Common.{◌≡◌, ◌∙◌, ap, false, sym, true}
use Rattle.std.proofs.lemmas.Result.{IfOk-weaker}
use Rattle.slot_reach.specs.States.{cert_of_states}
use Rattle.widget_host.specs.Housed.{IsHoused, chains, marked, names}
use Rattle.widget_host.specs.Reached.{reached}
use Rattle.widget_host.proofs.Reached.{few_slots, shown_are}
use Rattle.widget_host.proofs.host.Host.reach.Goals as goal

pub returns-clause-read : goal.returns-clause-read
unfolding reached
returns-clause-read c = rw c.deref.ensures.value at c.reach.ensures.read

pub returns-clause-states : goal.returns-clause-states
unfolding IsHoused chains names
returns-clause-states c =
    let h = c.args.self.now in
    let apart = c.requires.housed.0 in
    IfOk-weaker c.reach.result _ _ (λ cert told ends shown.
    told apart.own apart.standing ∙ ap cert_of_states (c.lasts_are_told.ensures h.lives h.slots.items ends (shown_are h h.slots.items ends shown)))
    (rw c.deref.ensures.value at c.reach.ensures.states)

pub returns-clause-confined : goal.returns-clause-confined
unfolding IsHoused
returns-clause-confined c =
    let apart = c.requires.housed.0 in
    IfOk-weaker c.reach.result _ _ (λ cert stays. stays apart.own apart.standing) (rw c.deref.ensures.value at c.reach.ensures.confined)

pub returns-clause-names : goal.returns-clause-names
unfolding names
returns-clause-names c = rw c.deref.ensures.value at c.reach.ensures.names

pub returns-clause-few : goal.returns-clause-few
unfolding IsHoused marked
returns-clause-few c =
    let h = c.args.self.now in
    let apart = c.requires.housed.0 in
    IfOk-weaker c.reach.result _ _ (λ cert few. few apart.standing (few_slots h (c.requires.housed.1 c.if-self.false)))
    (rw c.deref.ensures.value at c.reach.ensures.few)

pub returns-clause-shape : goal.returns-clause-shape
unfolding IsHoused marked names
returns-clause-shape c =
    let h = c.args.self.now in
    let apart = c.requires.housed.0 in
    IfOk-weaker c.reach.result _ _ (λ cert is named. is apart.own apart.standing (few_slots h (c.requires.housed.1 c.if-self.false)) (named, apart.distinct))
    (rw c.deref.ensures.value at c.reach.ensures.shape)

pub returns-clause-marked : goal.returns-clause-marked
unfolding marked
returns-clause-marked c = λ is. absurd (let both : false ≡ true = sym c.if-self.false ∙ is in cc)
