use Rattle.turn_steps.proofs.moving.give_on.Goals as goal

pub returns-clause-given : goal.returns-clause-given
returns-clause-given c = record { plan = c.in_ok-doing.ensures.plan; fine = c.in_ok-doing.ensures.fine; near = c.in_ok-doing.ensures.near }

pub returns-clause-kept : goal.returns-clause-kept
returns-clause-kept c = record { sound = c.give.ensures.sound; kept = c.give.ensures.kept }

pub returns-in_err-doing-clause-kept : goal.returns-in_err-doing-clause-kept
returns-in_err-doing-clause-kept c = record { sound = c.give.ensures.sound; kept = c.give.ensures.kept }
