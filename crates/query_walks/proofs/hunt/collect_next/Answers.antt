use Rattle.std.proofs.Common.{arith, refl}
use Rattle.std.specs.List.{filter}
use Rattle.page_tree.specs.Entries.{at}
use Rattle.page_tree.specs.Pages.{nodes}
use Rattle.query_walks.specs.Finds.{is_tagged}
use Rattle.query_walks.specs.Walks.{is_start, next_ones}
use Rattle.query_walks.proofs.Behind.{next_more}
use Rattle.query_walks.proofs.Downward.{piece_done}
use Rattle.query_walks.proofs.hunt.collect_next.Goals as goal

pub each-preserved : goal.each-preserved
each-preserved c = next_more (nodes c.args.page.now) (is_start c.args.root c.args.starts.now) (is_tagged (nodes c.args.page.now) c.args.tag.now) (at (nodes c.args.page.now) c.args.parent).children c.each.place c.child_at-child.result c.each.met c.is_met-met.result c.each.found.items c.take_next.new.found.items _ (omega (arith, c.each-test.true, c.width-place-end.ensures)) c.child_at-child.ensures.child c.in_ok-take_next.ensures c.is_met-met.ensures c.each.invariant

pub returns : goal.returns
returns c = piece_done (λ ns. filter (is_tagged (nodes c.args.page.now) c.args.tag.now) (next_ones (nodes c.args.page.now) (is_start c.args.root c.args.starts.now) c.each.met ns)) (at (nodes c.args.page.now) c.args.parent).children c.each.place c.each.found.items _ refl (omega (arith, c.each-test.false, c.width-place-end.ensures)) c.each.invariant
