use Rattle.std.proofs.Common.{◌≡◌, ℕ, ◌<◌, ◌++◌, [], map, length, get_or, drop}
use Rattle.post_rounds.specs.Events.{sent, values}
use Rattle.post_rounds.proofs.rounds.deliver.Given as goal

abbrev pub invariant-posts : goal.invariant-posts
invariant-posts l = record {
  slots : length l.events.items ≡ length l.fn.events.items;
  news : (w : ℕ) → w < length l.names → get_or (map (λ v. values v.items) l.events.items) w [] ++ sent l.channels l.names l.sender w (drop l.post-index l.posts) ≡ get_or (map (λ v. values v.items) l.fn.events.items) w [] ++ sent l.channels l.names l.sender w l.posts;
}
