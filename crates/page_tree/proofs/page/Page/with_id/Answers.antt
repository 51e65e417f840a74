use Rattle.std.proofs.Common.{◌∙◌}
use Rattle.page_tree.specs.Pages.{nodes}
use Rattle.page_nodes.proofs.Indexing.{index_gives}
use Rattle.page_tree.proofs.page.Page.with_id.Goals as goal

pub returns : goal.returns
returns c = c.get.ensures ∙ index_gives (nodes c.args.self.now) c.args.self.now.ids c.args.owner c.args.id.now c.slot_of.result c.args.self.now.indexed c.requires c.slot_of.ensures.value
