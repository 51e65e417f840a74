use Rattle.page_tree.specs.Pages.{nodes}
use Rattle.page_nodes.proofs.Put.{others_detached}
use Rattle.page_tree.proofs.RootsKept.{rooted_cut}
use Rattle.page_tree.proofs.Counts.{counted_kept}
use Rattle.page_nodes.proofs.Indexing.{index_kept}
use Rattle.page_tree.proofs.page.Page.detach.Goals as goal

pub invariant_of-self : goal.invariant_of-self
invariant_of-self c = record {
  rooted = rooted_cut (nodes c.args.self.now) _ c.args.self.now.roots c.args.node c.args.self.now.rooted c.detach.ensures.links;
  counted = counted_kept (nodes c.args.self.now) _ c.args.self.now.made c.detach.ensures.links.kept c.args.self.now.counted;
  indexed = index_kept (nodes c.args.self.now) _ c.args.self.now.ids c.detach.ensures.links.kept c.args.self.now.indexed;
}

pub returns-clause-others : goal.returns-clause-others
returns-clause-others c = others_detached (nodes c.args.self.now) _ c.args.node c.args.self.now.arena.sound c.detach.ensures.links
