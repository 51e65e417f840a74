use Rattle.std.proofs.Common.{ap}
use Rattle.trace_reader.specs.Said.{said}
use Rattle.widget_host.specs.declared.items.HostItem.TheVariants as host
use Rattle.page_play.proofs.Giving.{given_as, left_as, swap_given, swap_left, swap_there, swap_few, swap_loadable, swap_some, event_there, advance_short}
use Rattle.page_play.proofs.playing.give.Goals as goal

pub give_item-requires-clause-housed : goal.give_item-requires-clause-housed
give_item-requires-clause-housed c = c.requires.housed

pub give_item-requires-clause-unmarked : goal.give_item-requires-clause-unmarked
give_item-requires-clause-unmarked c = c.requires.unmarked

pub give_item-requires-clause-room : goal.give_item-requires-clause-room
give_item-requires-clause-room c = c.requires.room

pub give_item-requires-clause-shape : goal.give_item-requires-clause-shape
give_item-requires-clause-shape c =
    event_there c.args.left.now.items c.args.host.now (said c.args.item) c.in-Event.to c.in-Event.event.kind c.in-Event.event.path.items c.in-Event.event.value (ap said c.in-Event.is) c.requires.may

pub returns-in-Event-clause-gives : goal.returns-in-Event-clause-gives
returns-in-Event-clause-gives c =
    given_as c.give_item.result (said c.args.item) (host.Event c.in-Event.to (record { kind = c.in-Event.event.kind; path = c.in-Event.event.path; value = c.in-Event.event.value }))
    c.args.left.now.items c.args.host.now c.give_item.new.host (ap said c.in-Event.is) c.give_item.ensures

pub returns-in-Event-clause-left : goal.returns-in-Event-clause-left
returns-in-Event-clause-left c =
    left_as c.give_item.result (said c.args.item) (host.Event c.in-Event.to (record { kind = c.in-Event.event.kind; path = c.in-Event.event.path; value = c.in-Event.event.value })) c.args.left.now.items (ap said c.in-Event.is)

pub give_item-requires-in-Advance-clause-housed : goal.give_item-requires-in-Advance-clause-housed
give_item-requires-in-Advance-clause-housed c = c.requires.housed

pub give_item-requires-in-Advance-clause-unmarked : goal.give_item-requires-in-Advance-clause-unmarked
give_item-requires-in-Advance-clause-unmarked c = c.requires.unmarked

pub give_item-requires-in-Advance-clause-room : goal.give_item-requires-in-Advance-clause-room
give_item-requires-in-Advance-clause-room c = c.requires.room

pub give_item-requires-in-Advance-clause-shape : goal.give_item-requires-in-Advance-clause-shape
give_item-requires-in-Advance-clause-shape c = advance_short c.args.left.now.items c.args.host.now (said c.args.item) c.in-Advance.ms (ap said c.in-Advance.is) c.requires.may

pub returns-in-Advance-clause-gives : goal.returns-in-Advance-clause-gives
returns-in-Advance-clause-gives c = given_as c.give_item-in-Advance.result (said c.args.item) (host.Advance c.in-Advance.ms) c.args.left.now.items c.args.host.now c.give_item-in-Advance.new.host (ap said c.in-Advance.is) c.give_item-in-Advance.ensures

pub returns-in-Advance-clause-left : goal.returns-in-Advance-clause-left
returns-in-Advance-clause-left c = left_as c.give_item-in-Advance.result (said c.args.item) (host.Advance c.in-Advance.ms) c.args.left.now.items (ap said c.in-Advance.is)

pub give_swap-requires-clause-housed : goal.give_swap-requires-clause-housed
give_swap-requires-clause-housed c = c.requires.housed

pub give_swap-requires-clause-unmarked : goal.give_swap-requires-clause-unmarked
give_swap-requires-clause-unmarked c = c.requires.unmarked

pub give_swap-requires-clause-room : goal.give_swap-requires-clause-room
give_swap-requires-clause-room c = c.requires.room

pub give_swap-requires-clause-there : goal.give_swap-requires-clause-there
give_swap-requires-clause-there c = swap_there c.args.left.now.items c.pop_front.new.self.items c.args.host.now (said c.args.item) c.in-Swap.to _ c.in-Some.content (ap said c.in-Swap.is) c.requires.may

pub give_swap-requires-clause-few : goal.give_swap-requires-clause-few
give_swap-requires-clause-few c = swap_few c.args.left.now.items c.pop_front.new.self.items c.args.host.now (said c.args.item) c.in-Swap.to _ c.in-Some.content (ap said c.in-Swap.is) c.requires.may

pub give_swap-requires-clause-loadable : goal.give_swap-requires-clause-loadable
give_swap-requires-clause-loadable c = swap_loadable c.args.left.now.items c.pop_front.new.self.items c.args.host.now (said c.args.item) c.in-Swap.to _ c.in-Some.content (ap said c.in-Swap.is) c.requires.may c.in-Some.ensures.items

pub returns-in-Some-clause-gives : goal.returns-in-Some-clause-gives
returns-in-Some-clause-gives c = swap_given c.give_swap.result (said c.args.item) c.in-Swap.to _ c.in-Some.content c.args.left.now.items c.pop_front.new.self.items c.args.host.now c.give_swap.new.host (ap said c.in-Swap.is) c.in-Some.ensures.items c.give_swap.ensures

pub returns-in-Some-clause-left : goal.returns-in-Some-clause-left
returns-in-Some-clause-left c = swap_left c.give_swap.result (said c.args.item) c.in-Swap.to _ c.in-Some.content c.args.left.now.items c.pop_front.new.self.items (ap said c.in-Swap.is) c.in-Some.ensures.items

pub unreachable-requires : goal.unreachable-requires
unreachable-requires c = swap_some c.args.left.now.items c.pop_front.new.self.items c.args.host.now (said c.args.item) c.in-Swap.to _ (ap said c.in-Swap.is) c.requires.may c.in-None.ensures.items c.in-None.ensures.rest
