use Rattle.std.proofs.Common.{subst, sym}
use Rattle.page_tree.specs.Roots.{IsRooted}
use Rattle.page_tree.specs.Counts.{IsCounted}
use Rattle.page_tree.specs.Pages.{nodes}
use Rattle.page_nodes.proofs.Lists.{match_either}
use Rattle.page_tree.proofs.RootsKept.{rooted_relabelled, others_relabelled, others_same}
use Rattle.page_tree.proofs.Counts.{counted_same}
use Rattle.page_tree.proofs.page.Page.set_attr.Goals as goal

pub invariant_of-self : goal.invariant_of-self
invariant_of-self c = record {
  rooted = match_either c.set_attribute.result _ _ _
      (λ e. rooted_relabelled (nodes c.args.self.now) _ c.args.self.now.roots c.args.node _ c.args.self.now.rooted e)
      (λ e. subst (λ k. IsRooted k c.args.self.now.roots) (sym e) c.args.self.now.rooted)
      c.set_attribute.ensures.nodes;
  counted = match_either c.set_attribute.result _ _ _
      (λ e. counted_same (nodes c.args.self.now) _ c.args.self.now.made e.made e.owners c.args.self.now.counted)
      (λ e. subst (λ k. IsCounted k c.args.self.now.made) (sym e) c.args.self.now.counted)
      c.set_attribute.ensures.nodes;
  indexed = c.set_attribute.ensures.index;
}

pub returns-clause-others : goal.returns-clause-others
returns-clause-others c = match_either c.set_attribute.result _ _ _
    (λ e. others_relabelled (nodes c.args.self.now) _ c.args.node _ c.args.self.now.arena.sound e)
    (λ e. others_same (nodes c.args.self.now) _ c.args.node e)
    c.set_attribute.ensures.nodes
