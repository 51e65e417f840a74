use Rattle.std.proofs.Common.{◌≡◌, ℕ, ◌<◌, ◌++◌, [], map, length, get_or, drop}
use Rattle.post_rounds.specs.Events.{values}
use Rattle.post_rounds.specs.News.{news, news_from}
use Rattle.post_rounds.proofs.rounds.round.Given as goal

abbrev pub invariant-senders : goal.invariant-senders
invariant-senders l = record {
  slots : length l.events.items ≡ length l.names;
  news : (w : ℕ) → w < length l.names → get_or (map (λ v. values v.items) l.events.items) w [] ++ news_from l.channels l.names w l.sender (drop l.sender (map (λ v. v.items) l.fresh)) ≡ news l.channels l.names (map (λ v. v.items) l.fresh) w;
}
