use Rattle.std.proofs.Common.{ap, ◌∙◌}
use Rattle.page_nodes.specs.Owners.{root_in}
use Rattle.page_tree.specs.Pages.{nodes, root_after}
use Rattle.page_tree.proofs.RootsKept.{rooted_new, new_apart}
use Rattle.page_tree.proofs.page.Page.make_root.Goals as goal

pub invariant_of-self : goal.invariant_of-self
invariant_of-self c =
    let k = nodes c.args.self.now in
    record {
      rooted = rooted_new k k c.args.self.now.roots _ c.args.node c.args.self.now.rooted (new_apart k c.args.self.now.roots c.args.node c.requires.node c.requires.top c.requires.free) (λ o i. c.set_root.ensures o i ∙ ap (λ p. root_after c.args.node p (root_in c.args.self.now.roots) o) c.owner.ensures);
      counted = c.args.self.now.counted;
      indexed = c.args.self.now.indexed;
    }
