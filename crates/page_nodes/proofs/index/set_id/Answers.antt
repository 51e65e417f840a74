use Rattle.std.proofs.Common.{ap, sym, subst, ◌∙◌}
use Rattle.std.specs.Prelude.{codes, option_copied}
use Rattle.page_nodes.specs.Arenas.{nodes_in}
use Rattle.tree_ops.specs.Labels.{attribute_of}
use Rattle.page_nodes.specs.Index.{HasRoom, Puts}
use Rattle.page_nodes.specs.Owners.{slot}
use Rattle.page_nodes.proofs.Indexing.{rising_same, room_still, id_changed}
use Rattle.page_nodes.proofs.index.set_id.Goals as goal

pub take-requires-clause-in_order : goal.take-requires-clause-in_order
take-requires-clause-in_order c = rising_same c.args.ids.now c.make_room.new.self c.make_room.ensures.same c.requires.index.in_order

pub put-requires-clause-room : goal.put-requires-clause-room
put-requires-clause-room c = room_still c.make_room.new.self c.take.new.self c.slot_of-slot.result (option_copied c.as_ref-4.result) c.take.ensures.room (subst (HasRoom c.make_room.new.self c.slot_of-slot.result) (c.as_ref-2.ensures.value ∙ sym c.as_ref-4.ensures.value) c.in_ok-make_room.ensures.room)

pub returns-clause-index : goal.returns-clause-index
returns-clause-index c =
    id_changed (nodes_in c.args.arena.now) (nodes_in c.set_attribute.new.self) c.args.ids.now c.make_room.new.self c.take.new.self c.put.new.self c.forget.new.self c.args.node c.slot_of-slot.result (option_copied c.as_ref-3.result) c.args.value c.args.name.now c.requires.node c.requires.word c.requires.element c.requires.index c.make_room.ensures.same (c.requires.owners c.args.node)
    (c.slot_of-slot.ensures.value ∙ ap slot c.owner.ensures)
    (c.as_ref-3.ensures.value ∙ c.in_ok-old.ensures ∙ c.id_of.ensures ∙ ap (attribute_of (codes "id")) c.content.ensures)
    c.in_ok-set_attribute.ensures c.take.ensures
    (subst (λ o. Puts c.take.new.self c.put.new.self c.slot_of-slot.result o c.args.node) (c.as_ref-4.ensures.value ∙ c.in_ok-new.ensures ∙ c.as_ref.ensures.value) c.put.ensures)
    c.forget.ensures
