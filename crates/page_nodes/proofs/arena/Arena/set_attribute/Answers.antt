use Rattle.std.proofs.Common.{subst, sym}
use Rattle.page_nodes.specs.Entries.{IsSound}
use Rattle.page_nodes.specs.Arenas.{nodes_in}
use Rattle.page_nodes.proofs.Lists.{match_more, match_either}
use Rattle.page_nodes.proofs.Label.{label_written, attribute_kind}
use Rattle.page_nodes.proofs.arena.Arena.set_attribute.Goals as goal

pub invariant_of-self : goal.invariant_of-self
invariant_of-self c = record {
  sound = match_either c.set_attribute.result _ _ _
      (λ e. (label_written (nodes_in c.args.self.now) _ c.args.node _ c.args.self.now.sound c.requires.node (attribute_kind c.args.name.now c.args.value _ c.requires.element) e).0)
      (λ e. subst IsSound (sym e) c.args.self.now.sound)
      c.set_attribute.ensures;
}

pub returns : goal.returns
returns c = match_more c.set_attribute.result _ _ _ _
    (λ e. (label_written (nodes_in c.args.self.now) _ c.args.node _ c.args.self.now.sound c.requires.node (attribute_kind c.args.name.now c.args.value _ c.requires.element) e).1)
    (λ e. e)
    c.set_attribute.ensures
