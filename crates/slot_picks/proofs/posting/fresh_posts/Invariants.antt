use Rattle.std.proofs.Common.{◌≡◌, map, take}
use Rattle.slot_picks.specs.Posting.{post_in}
use Rattle.slot_picks.proofs.posting.fresh_posts.Given as goal

abbrev pub invariant-posts : goal.invariant-posts
invariant-posts l = l.fresh.items ≡ map post_in (take l.post-index l.untold)
