use Rattle.std.proofs.Common.{◌≡◌, take, vec_len}
use Rattle.node_rules.specs.Enclosing.{IsCounted}
use Rattle.node_rules.proofs.enclosing.Enclosing.leave_to.Given as goal

abbrev pub invariant-leave : goal.invariant-leave
invariant-leave l = record { counted : IsCounted l.self; left : take l.depth l.self.stack.items ≡ take l.depth l.initial.self.stack.items }

abbrev pub decreases-leave : goal.decreases-leave
decreases-leave l = vec_len l.self.stack
