use Rattle.std.proofs.Common.{◌∙◌}
use Rattle.page_image.proofs.Calls.{are_nodes}
use Rattle.page_image.proofs.Pages.{is_node}
use Rattle.page_image.proofs.Taking.{judged}
use Rattle.page_image.proofs.reads.may_append.Goals as goal

pub may_append-requires-clause-target : goal.may_append-requires-clause-target
may_append-requires-clause-target c = is_node c.args.page.now c.args.widget c.args.target c.requires.target

pub may_append-requires-clause-news : goal.may_append-requires-clause-news
may_append-requires-clause-news c = are_nodes c.args.page.now c.args.widget c.args.news.now c.requires.news

pub returns : goal.returns
returns c = c.is_ok.ensures.value ∙ judged c.args.page.now c.args.widget c.requires.home c.args.target c.requires.target c.args.news.now c.requires.news c.may_append.result c.may_append.ensures
