use Rattle.node_rules.proofs.Open.{more_step}
use Rattle.node_rules.proofs.enclosing.count_more.Goals as goal

pub more-preserved : goal.more-preserved
more-preserved c = λ q. more_step c.args.names.now c.more.name-index c.name-item.result c.more-test.true c.name-item.is q _ _ _ (c.in_ok-count.ensures q) (c.more.invariant q)
