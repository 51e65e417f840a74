use Rattle.std.proofs.Common.{refl, arith}
use Rattle.page_live.proofs.Taken.{took_item, many_chains}
use Rattle.page_live.proofs.page.LivePage.take.Goals as goal

pub give_item-requires-clause-some : goal.give_item-requires-clause-some
give_item-requires-clause-some c = c.requires.alive.is.some

pub give_item-requires-clause-housed : goal.give_item-requires-clause-housed
give_item-requires-clause-housed c = c.requires.alive.is.live.housed

pub give_item-requires-clause-unmarked : goal.give_item-requires-clause-unmarked
give_item-requires-clause-unmarked c = c.requires.alive.is.live.unmarked

pub give_item-requires-clause-room : goal.give_item-requires-clause-room
give_item-requires-clause-room c = omega (arith, c.requires.room, c.requires.alive.is.live.given, c.requires.alive.is.taken)

pub give_item-requires-clause-shape : goal.give_item-requires-clause-shape
give_item-requires-clause-shape c = many_chains c.requires.alive.parts c.requires.alive.pairs c.requires.alive.runs c.requires.alive.files c.requires.alive.items c.args.self.now c.requires.alive.is c.args.item c.requires.shape

pub returns : goal.returns
returns c = λ parts pairs runs files items l. took_item parts pairs runs files items c.args.self.now l c.args.item _ _ (c.in_ok-give_item.ensures l.spec l.swaps items l.live) refl
