use Rattle.std.proofs.Common.{sym, ◌∙◌, arith}
use Rattle.page_nodes.specs.Entries.{entries}
use Rattle.page_nodes.proofs.Detach.{cut_none}
use Rattle.page_nodes.proofs.Raised.{one_cut, written_cut}
use Rattle.page_nodes.proofs.Upward.{parent_in}
use Rattle.page_nodes.proofs.many.take_one.Goals as goal

pub drop_child-requires-clause-parent : goal.drop_child-requires-clause-parent
drop_child-requires-clause-parent c = parent_in _ c.requires.sound c.args.node _ (sym c.parent_of.ensures ∙ c.in-Some.is)

pub drop_child-requires-clause-once : goal.drop_child-requires-clause-once
drop_child-requires-clause-once c = c.requires.sound.once _

pub returns-in-Some-clause-links : goal.returns-in-Some-clause-links
returns-in-Some-clause-links c = written_cut _ c.requires.sound c.args.node _ _ _ c.requires.node (sym c.parent_of.ensures ∙ c.in-Some.is) c.drop_child.ensures.links c.set_parent.ensures.links

pub returns-in-Some-clause-room : goal.returns-in-Some-clause-room
returns-in-Some-clause-room c = λ t. omega (arith, c.drop_child.ensures.room t, c.set_parent.ensures.room t)

pub returns-in_default-clause-links : goal.returns-in_default-clause-links
returns-in_default-clause-links c = one_cut (entries c.args.rows.now.items) _ c.args.node (cut_none _ c.requires.sound c.args.node (sym c.parent_of.ensures ∙ c.in_default.is))
