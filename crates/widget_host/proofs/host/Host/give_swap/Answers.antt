use Rattle.std.proofs.Common.{◌≡◌, ◌+◌, ◌∙◌, ap, arith, false, refl, sym, true}
use Rattle.widget_host.specs.Housed.{IsHoused, given, marked}
use Rattle.widget_host.proofs.Bearing.{apart_with, life_with, others_here, others_with, whole_counted}
use Rattle.widget_host.proofs.host.Host.give_swap.Goals as goal

pub returns-then-self-clause-stays : goal.returns-then-self-clause-stays
returns-then-self-clause-stays c = others_here c.args.self.now

pub returns-then-self-clause-mark : goal.returns-then-self-clause-mark
unfolding marked
returns-then-self-clause-mark c = c.if-self.true

pub bear-requires-clause-apart : goal.bear-requires-clause-apart
unfolding IsHoused
bear-requires-clause-apart c = c.requires.housed.0

pub bear-requires-clause-whole : goal.bear-requires-clause-whole
unfolding IsHoused marked
bear-requires-clause-whole c = c.requires.housed.1 c.if-self.false

pub overflow_add-self : goal.overflow_add-self
unfolding given
overflow_add-self c = omega (arith, c.requires.room, c.bear.ensures.given)

pub returns-in-Ok-clause-gives : goal.returns-in-Ok-clause-gives
unfolding given
returns-in-Ok-clause-gives c = record {
  life = life_with c.args.self.now c.bear.new.self (c.bear.new.self.given + 1) c.bear.new.self.marked c.args.to c.args.content c.in-Ok.ensures.life;
  given = ap (λ n. n + 1) c.bear.ensures.given;
  stays = others_with c.args.self.now c.bear.new.self (c.bear.new.self.given + 1) c.bear.new.self.marked c.in-Ok.ensures.stays;
}

pub returns-in-Ok-clause-stays : goal.returns-in-Ok-clause-stays
returns-in-Ok-clause-stays c = others_with c.args.self.now c.bear.new.self (c.bear.new.self.given + 1) c.bear.new.self.marked c.in-Ok.ensures.stays

pub returns-in-Ok-clause-housed : goal.returns-in-Ok-clause-housed
unfolding IsHoused given
returns-in-Ok-clause-housed c =
    let mid = c.bear.new.self in (
      apart_with mid mid (mid.given + 1) mid.marked c.in-Ok.ensures.apart,
      λ unmarked. whole_counted mid mid.marked c.in-Ok.ensures.whole (omega (arith, c.requires.room, c.bear.ensures.given)),
    )

pub returns-in-Err-clause-stays : goal.returns-in-Err-clause-stays
returns-in-Err-clause-stays c = others_with c.args.self.now c.bear.new.self c.bear.new.self.given true c.bear.ensures.stays

pub returns-in-Err-clause-housed : goal.returns-in-Err-clause-housed
unfolding IsHoused marked
returns-in-Err-clause-housed c = (apart_with c.bear.new.self c.bear.new.self c.bear.new.self.given true c.bear.ensures.apart, λ unmarked. absurd (let both : true ≡ false = unmarked in cc))

pub returns-in-Err-clause-mark : goal.returns-in-Err-clause-mark
unfolding marked
returns-in-Err-clause-mark c = refl

pub returns-in-Ok-clause-marked : goal.returns-in-Ok-clause-marked
unfolding marked
returns-in-Ok-clause-marked c = λ is. absurd (let both : true ≡ false = sym is ∙ c.if-self.false in cc)

pub returns-in-Ok-clause-unmarked : goal.returns-in-Ok-clause-unmarked
unfolding marked
returns-in-Ok-clause-unmarked c = c.bear.ensures.marked ∙ c.if-self.false

pub returns-in-Err-clause-marked : goal.returns-in-Err-clause-marked
unfolding marked
returns-in-Err-clause-marked c = λ is. absurd (let both : true ≡ false = sym is ∙ c.if-self.false in cc)
