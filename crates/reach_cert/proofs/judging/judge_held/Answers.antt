use Rattle.reach_cert.proofs.Judged.{unheld, held_refused, held_read}
use Rattle.reach_cert.proofs.judging.judge_held.Goals as goal

pub returns-in_default-clause-fault : goal.returns-in_default-clause-fault
returns-in_default-clause-fault c = rw c.fault.ensures (unheld c.args.own.now c.args.lines.now c.in_default.ensures)

pub returns-in_default-refs_need-clause-fault : goal.returns-in_default-refs_need-clause-fault
returns-in_default-refs_need-clause-fault c = rw c.fault-in_default-refs_need.ensures (held_refused c.args.own.now c.args.lines.now _ c.in-Some.ensures c.in_default-refs_need.ensures)

pub returns-clause-held : goal.returns-clause-held
returns-clause-held c = held_read c.args.own.now c.args.lines.now _ c.in-Some.ensures c.advance.new.self c.in-Some-refs_need.need c.advance.ensures c.in-Some-refs_need.ensures
