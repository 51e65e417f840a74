use Rattle.std.proofs.Common.{◌≡◌, [], map, replicate}
use Rattle.post_rounds.specs.Events.{values}
use Rattle.post_rounds.proofs.rounds.no_events.Given as goal

abbrev pub invariant-slots : goal.invariant-slots
invariant-slots l = map (λ v. values v.items) l.events.items ≡ replicate l.counter []
