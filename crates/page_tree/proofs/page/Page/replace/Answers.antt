use Rattle.std.proofs.Common.{refl}
use Rattle.page_tree.specs.Pages.{nodes}
use Rattle.page_tree.proofs.Refusals.{at_no_place}
use Rattle.page_tree.proofs.RootsKept.{rooted_replaced, others_replaced}
use Rattle.page_nodes.specs.Arenas.{nodes_in}
use Rattle.page_tree.proofs.Counts.{counted_after, counted_kept}
use Rattle.page_nodes.proofs.Indexing.{index_kept, index_after}
use Rattle.page_tree.proofs.page.Page.replace.Goals as goal

pub put_all-requires-clause-away : goal.put_all-requires-clause-away
put_all-requires-clause-away c = at_no_place c.args.node c.args.news.now c.in_ok-target.ensures.away

pub invariant_of-self-2 : goal.invariant_of-self-2
invariant_of-self-2 c = record { rooted = rooted_replaced (nodes c.args.self.now) _ _ _ c.args.self.now.roots _ c.args.node c.args.news.now refl c.args.self.now.arena.sound c.args.self.now.rooted c.in_ok-target.ensures c.in_ok-put_all.ensures.links c.detach.ensures.links; counted = counted_kept (nodes_in c.put_all.new.self) _ c.args.self.now.made c.detach.ensures.links.kept (counted_after (nodes c.args.self.now) _ _ c.args.self.now.made refl c.in_ok-put_all.ensures.links.kept c.args.self.now.counted); indexed = index_kept (nodes_in c.put_all.new.self) _ c.args.self.now.ids c.detach.ensures.links.kept (index_after (nodes c.args.self.now) _ _ c.args.self.now.ids refl c.in_ok-put_all.ensures.links.kept c.args.self.now.indexed) }

pub returns-clause-others : goal.returns-clause-others
returns-clause-others c = others_replaced (nodes c.args.self.now) _ _ _ c.args.self.now.roots _ c.args.node c.args.news.now refl c.args.self.now.arena.sound c.put_all.new.self.sound c.args.self.now.rooted c.in_ok-target.ensures c.in_ok-put_all.ensures.links c.in_ok-put_all.ensures.others c.detach.ensures.links
