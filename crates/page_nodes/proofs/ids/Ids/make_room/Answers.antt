use Rattle.std.proofs.Common.{ap, arith, ◌∙◌}
use Rattle.std.specs.Prelude.{option_copied}
use Rattle.page_nodes.proofs.Indexing.{room_there}
use Rattle.page_nodes.proofs.Lists.{ok_more}
use Rattle.page_nodes.proofs.Tables.{same_written, room_written}
use Rattle.page_nodes.proofs.ids.Ids.make_room.Goals as goal

pub returns-in_err-add_list-clause-same : goal.returns-in_err-add_list-clause-same
returns-in_err-add_list-clause-same c = same_written c.args.self.now.owners.items c.args.slot c.index_mut-lists.result.now c.add_list.new.lists (omega (arith, c.requires, c.args.self.now.long)) c.index_mut-lists.ensures.value c.add_list.ensures

pub returns-clause-same : goal.returns-clause-same
returns-clause-same c = same_written c.args.self.now.owners.items c.args.slot c.index_mut-lists.result.now c.reserve_one.new.lists (omega (arith, c.requires, c.args.self.now.long)) c.index_mut-lists.ensures.value (λ v. c.reserve_one.ensures.same v ∙ c.add_list.ensures v)

pub returns-clause-room : goal.returns-clause-room
returns-clause-room c = ok_more c.reserve_one.result _ _ c.reserve_one.ensures.room (λ h. room_there _ c.args.slot c.in-Some.id.now _ (ap option_copied c.in-Some.is) (room_written c.args.self.now.owners.items c.args.slot c.reserve_one.new.lists c.in-Some.id.now (omega (arith, c.requires, c.args.self.now.long)) h))
