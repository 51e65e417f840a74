use Rattle.std.proofs.Common.{arith}
use Rattle.page_tree.specs.Pages.{nodes}
use Rattle.query_walks.specs.Walks.{takes}
use Rattle.query_walks.proofs.Downward.{sound, child_smaller, collected, trees_done}
use Rattle.query_walks.proofs.wanted.Wanted.+collect.Goals as goal

pub collect-requires : goal.collect-requires
collect-requires t c = (omega (arith, c.decreases, child_smaller c.args.page.now c.args.node c.each.place c.child_at.result (omega (arith, c.each-test.true, c.width-place-end.ensures)) c.child_at.ensures.child), (c.child_at.ensures.node, c.requires.all))

pub returns : goal.returns
returns t c = collected (nodes c.args.page.now) (sound c.args.page.now) (takes (nodes c.args.page.now) c.args.self.now) c.args.node _ _ _ c.in_ok-take.ensures (trees_done (nodes c.args.page.now) (takes (nodes c.args.page.now) c.args.self.now) _ c.each.place c.each.found.items _ (omega (arith, c.each-test.false, c.width-place-end.ensures)) c.each.invariant)
