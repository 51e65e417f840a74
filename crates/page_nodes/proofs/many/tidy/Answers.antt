use Rattle.std.proofs.Common.{ap, ◌∙◌, eqb}
use Rattle.page_nodes.specs.Entries.{entries}
use Rattle.page_nodes.specs.Many.{below}
use Rattle.page_nodes.specs.Room.{room_at}
use Rattle.page_nodes.proofs.Raised.{tidied_one, room_back}
use Rattle.page_nodes.proofs.many.tidy.Goals as goal

pub returns-clause-links : goal.returns-clause-links
returns-clause-links c = tidied_one (entries c.args.rows.now.items) (entries c.lift_children-children.new.rows.items) _ c.args.parent _ c.requires c.lift_children-children.ensures.links
    (c.take_out_tops.ensures.items ∙ ap (below (entries c.lift_children-children.new.rows.items)) c.lift_children-children.ensures.items) c.set_children.ensures.links

pub returns-clause-room : goal.returns-clause-room
returns-clause-room c = λ t. room_back (eqb t c.args.parent) _ _ _ _ (room_at c.args.rows.now.items t) (c.lift_children-children.ensures.room t) c.take_out_tops.ensures.room (c.set_children.ensures.room t)
