use Rattle.page_image.proofs.Calls.{are_nodes}
use Rattle.bunch_trees.proofs.Taken.{all_judged, widgets_own}
use Rattle.bunch_trees.proofs.appending.all_take.Goals as goal

pub may_append_to-requires-clause-targets : goal.may_append_to-requires-clause-targets
may_append_to-requires-clause-targets c = are_nodes c.args.page.now c.args.w.index c.args.targets.now c.requires.targets

pub may_append_to-requires-clause-owned : goal.may_append_to-requires-clause-owned
may_append_to-requires-clause-owned c = widgets_own c.args.page.now c.args.w.index c.args.targets.now c.requires.targets

pub may_append_to-requires-clause-news : goal.may_append_to-requires-clause-news
may_append_to-requires-clause-news c = are_nodes c.args.page.now c.args.w.index c.args.news.now c.requires.news

pub returns : goal.returns
returns c = all_judged c.args.page.now c.args.w.index c.requires.home c.args.targets.now c.args.news.now c.requires.targets c.requires.news c.may_append_to.result c.may_append_to.ensures
