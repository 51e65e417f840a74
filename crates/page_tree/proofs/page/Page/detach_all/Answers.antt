use Rattle.page_nodes.proofs.Detaching.{detaches_stay}
use Rattle.page_nodes.proofs.Indexing.{index_kept}
use Rattle.page_tree.specs.Pages.{nodes}
use Rattle.page_tree.proofs.RootsKept.{rooted_cut_all}
use Rattle.page_tree.proofs.Counts.{counted_kept}
use Rattle.page_tree.proofs.page.Page.detach_all.Goals as goal

pub invariant_of-self : goal.invariant_of-self
invariant_of-self c =
    let k = nodes c.args.self.now in
    let gone = c.detach_all.ensures.links in
    record {
      rooted = rooted_cut_all k _ c.args.self.now.roots c.args.list.items c.args.self.now.rooted gone;
      counted = counted_kept k _ c.args.self.now.made gone.kept c.args.self.now.counted;
      indexed = index_kept k _ c.args.self.now.ids gone.kept c.args.self.now.indexed;
    }

pub returns-clause-others : goal.returns-clause-others
returns-clause-others c = detaches_stay (nodes c.args.self.now) c.args.list.items _ c.detach_all.ensures.steps
