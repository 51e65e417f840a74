use Rattle.std.proofs.Common.{ap, arith}
use Rattle.std.specs.Prelude.{option_copied}
use Rattle.page_nodes.proofs.Indexing.{takes_there}
use Rattle.page_nodes.proofs.Tables.{rising_here, rising_written, less_written, room_kept}
use Rattle.page_nodes.proofs.ids.Ids.take.Goals as goal

pub take_from-requires : goal.take_from-requires
take_from-requires c = record { in_order = rising_here c.args.self.now.owners.items c.args.slot c.index_mut.result.now (omega (arith, c.requires.slot, c.args.self.now.long)) c.index_mut.ensures.value c.requires.in_order }

pub returns-in-Some : goal.returns-in-Some
returns-in-Some c =
    takes_there _ _ c.args.slot c.args.node c.in-Some.id.now _ (ap option_copied c.in-Some.is)
    (rising_written c.args.self.now.owners.items c.args.slot c.take_from.new.lists (omega (arith, c.requires.slot, c.args.self.now.long)) c.requires.in_order c.take_from.ensures.in_order)
    (less_written c.args.self.now.owners.items c.args.slot c.args.node c.in-Some.id.now c.index_mut.result.now c.take_from.new.lists (omega (arith, c.requires.slot, c.args.self.now.long)) c.index_mut.ensures.value c.take_from.ensures.exact)
    (room_kept c.args.self.now.owners.items c.args.slot c.index_mut.result.now c.take_from.new.lists (omega (arith, c.requires.slot, c.args.self.now.long)) c.index_mut.ensures.value c.take_from.ensures.room)
