use Rattle.plain_tree.specs.Trees.{TextOf}
use Rattle.page_tree.specs.Pages.{nodes}
use Rattle.page_tree.proofs.RootsKept.{rooted_relabelled, others_relabelled}
use Rattle.page_tree.proofs.Counts.{counted_same}
use Rattle.page_nodes.proofs.Indexing.{index_text}
use Rattle.page_tree.proofs.page.Page.set_text.Goals as goal

pub invariant_of-self : goal.invariant_of-self
invariant_of-self c = record { rooted = rooted_relabelled (nodes c.args.self.now) _ c.args.self.now.roots c.args.node (TextOf c.args.text) c.args.self.now.rooted c.set_text.ensures; counted = counted_same (nodes c.args.self.now) _ c.args.self.now.made c.set_text.ensures.made c.set_text.ensures.owners c.args.self.now.counted; indexed = index_text (nodes c.args.self.now) _ c.args.self.now.ids c.args.node c.args.text c.requires.is_text c.set_text.ensures c.args.self.now.indexed }

pub returns-clause-others : goal.returns-clause-others
returns-clause-others c = others_relabelled (nodes c.args.self.now) _ c.args.node (TextOf c.args.text) c.args.self.now.arena.sound c.set_text.ensures
