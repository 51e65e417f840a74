use Rattle.native_common.proofs.Meeting.{refines_charged}
use Rattle.native_common.proofs.charging.charged.Goals as goal

pub returns-in-Ok : goal.returns-in-Ok
returns-in-Ok c = λ w s plan n e h. let t = c.in-Ok.ensures.ok n e in
    refines_charged w s s n plan c.args.out c.args.meter.now c.take.new.meter t.0 t.1 h
