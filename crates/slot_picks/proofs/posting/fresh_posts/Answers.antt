use Rattle.std.proofs.Common.{◌∙◌, ap, arith, map, take}
use Rattle.std.proofs.lemmas.List.{take_all}
use Rattle.slot_picks.specs.Posting.{post_in}
use Rattle.slot_picks.proofs.Untold.{map_drop}
use Rattle.slot_picks.proofs.posting.fresh_posts.Goals as goal

pub returns : goal.returns
returns c =
    c.posts.invariant ∙ (ap (map post_in) (take_all c.posts.post-index c.untold-untold.result.now (omega (arith, c.posts-test.false)))
    ∙ (ap (map post_in) c.untold-untold.ensures ∙ map_drop post_in c.args.told (take 256 c.args.kept.now)))
