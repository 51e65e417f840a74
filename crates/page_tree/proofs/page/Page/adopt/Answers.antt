use Rattle.std.proofs.Common.{ap, ◌∙◌}
use Rattle.page_nodes.specs.Entries.{at}
use Rattle.page_nodes.specs.Owners.{root_in}
use Rattle.page_nodes.specs.Arenas.{nodes_in}
use Rattle.page_tree.specs.Pages.{nodes, root_after}
use Rattle.page_nodes.proofs.Swap.{under_body}
use Rattle.page_tree.proofs.RootsKept.{rooted_new, new_linked, others_adopted}
use Rattle.page_tree.proofs.Counts.{counted_after}
use Rattle.page_nodes.proofs.Indexing.{index_after}
use Rattle.page_tree.proofs.page.Page.adopt.Goals as goal

pub link-requires-clause-may : goal.link-requires-clause-may
link-requires-clause-may c = under_body _ c.reserve.new.self.sound c.args.node c.requires.other (ap (λ k. (at k c.args.node).parent) c.in_ok-reserve.ensures.links ∙ c.requires.top)

pub invariant_of-self-2 : goal.invariant_of-self-2
invariant_of-self-2 c = record {
  rooted = rooted_new (nodes c.args.self.now) _ c.args.self.now.roots _ c.args.node c.args.self.now.rooted (new_linked (nodes c.args.self.now) _ _ c.args.self.now.roots c.args.node c.in_ok-reserve.ensures.links c.requires.node c.requires.top c.requires.free c.link.ensures.links) (λ o i. c.set_root.ensures o i ∙ ap (λ p. root_after c.args.node p (root_in c.args.self.now.roots) o) c.owner.ensures);
  counted = counted_after (nodes c.args.self.now) _ _ c.args.self.now.made c.in_ok-reserve.ensures.links c.link.ensures.links.kept c.args.self.now.counted;
  indexed = index_after (nodes c.args.self.now) _ _ c.args.self.now.ids c.in_ok-reserve.ensures.links c.link.ensures.links.kept c.args.self.now.indexed;
}

pub returns-clause-others : goal.returns-clause-others
returns-clause-others c = others_adopted (nodes c.args.self.now) (nodes_in c.reserve.new.self) _ c.args.node c.in_ok-reserve.ensures.links c.reserve.new.self.sound c.link.ensures.links
