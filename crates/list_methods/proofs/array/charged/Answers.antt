use Rattle.std.proofs.Common.{refl}
use Rattle.list_methods.proofs.Meeting.{refines_taken, refines_wanting}
use Rattle.list_methods.proofs.array.charged.Goals as goal

pub returns-in-Ok : goal.returns-in-Ok
returns-in-Ok c = λ w s plan n is h. refines_taken w s s n c.args.asked is plan c.args.meter.now c.take.new.meter c.args.out c.in-Ok.ensures.ok h

pub returns-in-Err : goal.returns-in-Err
returns-in-Err c = λ w s plan n is h. refines_wanting w s s n c.args.asked is plan c.args.meter.now c.take.new.meter c.in-Err.ensures.err c.in-Err.ensures.same refl
