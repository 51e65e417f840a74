use Rattle.std.proofs.Common.{ap, arith}
use Rattle.std.specs.Prelude.{option_copied}
use Rattle.page_nodes.proofs.Indexing.{puts_there}
use Rattle.page_nodes.proofs.Tables.{rising_here, room_here, rising_written, more_written}
use Rattle.page_nodes.proofs.ids.Ids.put.Goals as goal

pub put_under-requires-clause-in_order : goal.put_under-requires-clause-in_order
put_under-requires-clause-in_order c = rising_here c.args.self.now.owners.items c.args.slot c.index_mut.result.now (omega (arith, c.requires.slot, c.args.self.now.long)) c.index_mut.ensures.value c.requires.in_order

pub put_under-requires-clause-room : goal.put_under-requires-clause-room
put_under-requires-clause-room c = room_here c.args.self.now.owners.items c.args.slot c.index_mut.result.now c.in-Some.id.now (omega (arith, c.requires.slot, c.args.self.now.long)) c.index_mut.ensures.value (c.requires.room.room c.in-Some.id.now (ap option_copied c.in-Some.is))

pub returns-in-Some : goal.returns-in-Some
returns-in-Some c =
    puts_there _ _ c.args.slot c.args.node c.in-Some.id.now _ (ap option_copied c.in-Some.is)
    (rising_written c.args.self.now.owners.items c.args.slot c.put_under.new.lists (omega (arith, c.requires.slot, c.args.self.now.long)) c.requires.in_order c.put_under.ensures.in_order)
    (more_written c.args.self.now.owners.items c.args.slot c.args.node c.in-Some.id.now c.index_mut.result.now c.put_under.new.lists (omega (arith, c.requires.slot, c.args.self.now.long)) c.index_mut.ensures.value c.put_under.ensures.exact)
