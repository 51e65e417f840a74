use Rattle.std.proofs.Common.{ap, ◌∙◌}
use Rattle.std.specs.Prelude.{codes, option_copied}
use Rattle.page_nodes.specs.Arenas.{nodes_in}
use Rattle.tree_ops.specs.Labels.{attribute_of}
use Rattle.page_nodes.specs.Owners.{slot}
use Rattle.page_nodes.proofs.Indexing.{left_last}
use Rattle.page_nodes.proofs.index.leave.Goals as goal

pub returns : goal.returns
returns c = left_last (nodes_in c.args.arena.now) c.args.ids.now c.take.new.self c.forget.new.self c.args.node c.slot_of-slot.result (option_copied c.id_of-id.result) c.requires.before (c.requires.owners c.args.node) (c.slot_of-slot.ensures.value ∙ ap slot c.owner.ensures) (c.id_of-id.ensures ∙ ap (attribute_of (codes "id")) c.content.ensures) c.take.ensures c.forget.ensures
