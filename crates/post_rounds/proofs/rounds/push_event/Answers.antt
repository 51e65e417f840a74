use Rattle.std.proofs.Common.{ap, ◌∙◌}
use Rattle.std.proofs.lemmas.List.{map_push}
use Rattle.post_rounds.specs.declared.posts.PostEvent.{PostEvent}
use Rattle.post_rounds.specs.Events.{values}
use Rattle.post_rounds.proofs.Delivering.{push_at}
use Rattle.post_rounds.proofs.rounds.push_event.Goals as goal

pub returns-clause-news : goal.returns-clause-news
returns-clause-news c =
    push_at (λ v. values v.items) c.args.events.now.items c.args.receiver c.index_mut.result.now c.push.new.self c.args.event.value c.requires c.index_mut.ensures.value
    (ap values c.in_ok-push.ensures.items ∙ map_push (λ (e : PostEvent). e.value) c.index_mut.result.now.items c.args.event)
