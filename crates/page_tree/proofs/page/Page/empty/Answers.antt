use Rattle.page_nodes.specs.Entries.{at}
use Rattle.page_nodes.proofs.Detaching.{children_stay}
use Rattle.page_nodes.proofs.Indexing.{index_kept}
use Rattle.page_tree.specs.Pages.{nodes}
use Rattle.page_tree.proofs.RootsKept.{rooted_cut_all}
use Rattle.page_tree.proofs.Counts.{counted_kept}
use Rattle.page_tree.proofs.page.Page.empty.Goals as goal

pub invariant_of-self : goal.invariant_of-self
invariant_of-self c =
    let k = nodes c.args.self.now in
    let gone = c.empty.ensures.links in
    record {
      rooted = rooted_cut_all k _ c.args.self.now.roots (at k c.args.node).children c.args.self.now.rooted gone;
      counted = counted_kept k _ c.args.self.now.made gone.kept c.args.self.now.counted;
      indexed = index_kept k _ c.args.self.now.ids gone.kept c.args.self.now.indexed;
    }

pub returns-clause-others : goal.returns-clause-others
returns-clause-others c = children_stay (nodes c.args.self.now) _ c.args.node c.args.self.now.arena.sound c.requires.below c.empty.ensures.steps
