use Rattle.std.proofs.Common.{take}
use Rattle.post_rounds.specs.Events.{values}
use Rattle.slot_picks.specs.Posting.{HasEvents}
use Rattle.slot_picks.proofs.giving.queue_events.Given as goal

abbrev pub invariant-events : goal.invariant-events
invariant-events l = HasEvents (values (take l.event-index l.events)) l.fn.queue.items l.queue.items
