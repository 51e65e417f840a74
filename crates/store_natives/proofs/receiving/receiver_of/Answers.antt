use Rattle.std.proofs.Common.{arith}
use Rattle.store_natives.proofs.Receivers.{receiver_there}
use Rattle.store_natives.proofs.receiving.receiver_of.Goals as goal

pub returns-in-Some-clause-receiver : goal.returns-in-Some-clause-receiver
returns-in-Some-clause-receiver c = (receiver_there c.args.w.index c.args.store.now.cells (c.host_stays.ensures.same 0 (omega arith)) c.args.this.now c.in-Some.this c.in-Some.is c.requires.fine).0

pub returns-in-Some-clause-same : goal.returns-in-Some-clause-same
returns-in-Some-clause-same c = (receiver_there c.args.w.index c.args.store.now.cells (c.host_stays.ensures.same 0 (omega arith)) c.args.this.now c.in-Some.this c.in-Some.is c.requires.fine).1
