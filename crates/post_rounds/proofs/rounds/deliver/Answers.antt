use Rattle.post_rounds.proofs.Delivering.{posts_all}
use Rattle.post_rounds.proofs.rounds.deliver.Goals as goal

pub returns-clause-news : goal.returns-clause-news
returns-clause-news c = λ w in_w.
    posts_all c.args.channels.now c.args.names.now c.args.sender w c.posts.post-index c.args.posts.now _ _ c.posts-test.false (c.posts.invariant.news w in_w)
