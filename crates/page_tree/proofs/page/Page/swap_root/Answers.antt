use Rattle.std.proofs.Common.{ap, ◌∙◌}
use Rattle.page_nodes.specs.Owners.{root_in}
use Rattle.page_tree.specs.Pages.{nodes, root_after}
use Rattle.page_tree.proofs.RootsKept.{rooted_new, new_swapped, others_swapped}
use Rattle.page_tree.proofs.Counts.{counted_kept}
use Rattle.page_nodes.proofs.Indexing.{index_kept}
use Rattle.page_tree.proofs.page.Page.swap_root.Goals as goal

pub invariant_of-self : goal.invariant_of-self
invariant_of-self c = record { rooted = rooted_new (nodes c.args.self.now) _ c.args.self.now.roots _ c.args.new c.args.self.now.rooted (new_swapped (nodes c.args.self.now) _ c.args.self.now.roots c.args.old c.args.new c.requires.new c.requires.top c.requires.free c.swap.ensures) (λ o i. c.set_root.ensures o i ∙ ap (λ p. root_after c.args.new p (root_in c.args.self.now.roots) o) c.owner.ensures); counted = counted_kept (nodes c.args.self.now) _ c.args.self.now.made c.swap.ensures.kept c.args.self.now.counted; indexed = index_kept (nodes c.args.self.now) _ c.args.self.now.ids c.swap.ensures.kept c.args.self.now.indexed }

pub returns-clause-others : goal.returns-clause-others
returns-clause-others c = others_swapped (nodes c.args.self.now) _ c.args.old c.args.new c.args.self.now.arena.sound c.swap.ensures
