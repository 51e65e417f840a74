use Rattle.std.proofs.Common.{sym, ◌∙◌}
use Rattle.page_nodes.proofs.Upward.{parent_in}
use Rattle.page_nodes.proofs.Detach.{detach_written, detach_none}
use Rattle.page_nodes.proofs.arena.Arena.detach.Goals as goal

pub drop_child-requires-clause-parent : goal.drop_child-requires-clause-parent
drop_child-requires-clause-parent c = parent_in _ c.args.self.now.sound c.args.node _ (sym c.parent_of.ensures ∙ c.in-Some.is)

pub invariant_of-self : goal.invariant_of-self
invariant_of-self c = record { sound = (detach_written _ c.args.self.now.sound c.args.node _ _ _ c.requires (sym c.parent_of.ensures ∙ c.in-Some.is) c.drop_child.ensures.links c.set_parent.ensures.links).0 }

pub returns-in-Some-clause-links : goal.returns-in-Some-clause-links
returns-in-Some-clause-links c = (detach_written _ c.args.self.now.sound c.args.node _ _ _ c.requires (sym c.parent_of.ensures ∙ c.in-Some.is) c.drop_child.ensures.links c.set_parent.ensures.links).1

pub returns-in_default-clause-links : goal.returns-in_default-clause-links
returns-in_default-clause-links c = detach_none _ c.args.self.now.sound _ (sym c.parent_of.ensures ∙ c.in_default.is)
