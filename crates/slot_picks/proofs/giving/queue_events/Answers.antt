use Rattle.std.proofs.Common.{◌∷◌, [], ◌∙◌, subst, sym, take}
use Rattle.post_rounds.specs.Events.{values}
use Rattle.slot_picks.specs.Posting.{HasEvents}
use Rattle.slot_picks.proofs.Queues.{has_one, has_then, told_event, values_more}
use Rattle.slot_picks.proofs.giving.queue_events.Goals as goal

pub events-preserved : goal.events-preserved
events-preserved c =
    subst (λ vs. HasEvents vs c.args.queue.now.items c.push_back.new.self.items) (sym (values_more c.args.events.now c.events.event-index c.event-item.result c.events-test.true (sym c.event-item.is)))
    (has_then (values (take c.events.event-index c.args.events.now)) (c.event-item.result.value ∷ []) c.args.queue.now.items c.events.queue.items c.push_back.new.self.items c.events.invariant
    (has_one c.event-item.result.value _ c.events.queue.items c.push_back.new.self.items (told_event c.in_ok-event_of.field-0 c.event-item.result.value (c.in_ok-event_of.ensures.0 ∙ c.requires.kind) c.in_ok-event_of.ensures.1 c.in_ok-event_of.ensures.2) c.in_ok-push_back.ensures.items))
