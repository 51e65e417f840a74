use Rattle.json_judge.proofs.Kept.{held_less, held_more, held_same}
use Rattle.json_judge.proofs.members.hold.Goals as goal

pub returns-then-not-refused : goal.returns-then-not-refused
returns-then-not-refused c = λ found d bad was. held_less c.args.held.now c.remove.new.self c.args.name d found was c.remove.ensures.updates

pub returns-in-Ok : goal.returns-in-Ok
returns-in-Ok c = λ found d bad was. held_more c.args.held.now c.insert.new.self c.args.name d found was (bad c.if-not-refused.false) c.in-Ok.ensures.updates

pub returns-in-Err : goal.returns-in-Err
returns-in-Err c = λ found d bad was. held_same c.args.held.now c.insert.new.self c.args.name d found was c.in-Err.ensures.err c.in-Err.ensures.absent
