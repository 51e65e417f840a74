use Rattle.page_nodes.specs.Entries.{entries}
use Rattle.page_nodes.proofs.Detaching.{swept_whole}
use Rattle.page_nodes.proofs.many.take_children.Goals as goal

pub returns : goal.returns
returns c = swept_whole (entries c.args.rows.now.items) (entries c.clear_all.new.rows.items) _ c.args.parent c.requires.parent c.clear_all.ensures c.drop_all.ensures
