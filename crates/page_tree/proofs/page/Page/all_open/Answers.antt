use Rattle.std.proofs.Common.{arith, get_or}
use Rattle.page_tree.specs.Pages.{nodes, IsOpen}
use Rattle.page_nodes.proofs.Lists.{one_more_below}
use Rattle.page_tree.proofs.page.Page.all_open.Goals as goal

pub each-preserved : goal.each-preserved
each-preserved c = one_more_below (λ j. IsOpen (nodes c.args.self.now) (get_or c.args.targets.now j 0) c.args.height) c.each.target-index c.each.invariant c.if-not-opens.ensures

pub returns : goal.returns
returns c = λ j lt. c.each.invariant j (omega (arith, lt, c.each-test.false))
