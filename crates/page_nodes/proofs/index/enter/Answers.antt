use Rattle.std.proofs.Common.{ap, ◌∙◌}
use Rattle.std.specs.Prelude.{codes, option_copied}
use Rattle.page_nodes.specs.Arenas.{nodes_in}
use Rattle.tree_ops.specs.Labels.{attribute_of}
use Rattle.page_nodes.specs.Owners.{slot}
use Rattle.page_nodes.proofs.Indexing.{rising_same, entered_next}
use Rattle.page_nodes.proofs.index.enter.Goals as goal

pub put-requires-clause-in_order : goal.put-requires-clause-in_order
put-requires-clause-in_order c = rising_same c.args.ids.now c.make_room.new.self c.make_room.ensures.same c.requires.before.in_order

pub returns : goal.returns
returns c = entered_next (nodes_in c.args.arena.now) c.args.ids.now c.make_room.new.self c.put.new.self c.args.node c.slot_of-slot.result (option_copied c.id_of-id.result) c.requires.before c.make_room.ensures.same (c.requires.owners c.args.node) (c.slot_of-slot.ensures.value ∙ ap slot c.owner.ensures) (c.id_of-id.ensures ∙ ap (attribute_of (codes "id")) c.content.ensures) c.put.ensures
