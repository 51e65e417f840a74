use Rattle.std.proofs.Common.{◌≡◌, ◌+◌, ◌-◌, ◌<◌, ◌^◌, ◌∙◌, ap, arith}
use Rattle.slot_picks.proofs.Spending.{left_within, spent_fits, spent_none, spent_some}
use Rattle.slot_picks.proofs.lives.spent_of.Goals as goal

pub overflow_sub-life : goal.overflow_sub-life
overflow_sub-life c = left_within c.requires.fine.0 c.requires.fine.1 c.args.life.now c.in-Some.turn c.in-Some.is c.requires.fine.2

pub overflow_add-result : goal.overflow_add-result
overflow_add-result c =
    let fits : c.args.life.now.records.spent + (c.args.life.now.grant - c.in-Some.turn.left) < 2 ^ 64 = spent_fits c.requires.fine.0 c.requires.fine.1 c.args.life.now c.in-Some.turn c.in-Some.is c.requires.fine.2 in
    let same : c.from.result ≡ c.args.life.now.grant - c.in-Some.turn.left = c.from.ensures in
    omega (arith, fits, same)

pub returns-in-None : goal.returns-in-None
returns-in-None c = λ h w. spent_none h w c.args.life.now c.in-None.is

pub returns-in-Some : goal.returns-in-Some
returns-in-Some c = λ h w. ap (λ n. c.args.life.now.records.spent + n) c.from.ensures ∙ spent_some h w c.args.life.now c.in-Some.turn c.in-Some.is
