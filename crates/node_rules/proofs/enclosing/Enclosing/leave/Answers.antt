use Rattle.std.proofs.Common.{ap, arith, count_by}
use Rattle.std.specs.Str.{bytes_eq}
use Rattle.node_rules.specs.Enclosing.{occurs}
use Rattle.node_rules.proofs.Open.{occurs_more}
use Rattle.node_rules.proofs.enclosing.Enclosing.leave.Goals as goal

pub count_less-requires : goal.count_less-requires
count_less-requires c = λ q. omega (arith, c.requires q, ap (occurs q) c.in-Some.ensures.items, occurs_more q c.pop.new.self.items c.in-Some.opened, ap (count_by (bytes_eq q)) c.deref.ensures.value)
