use Rattle.page_tree.specs.Pages.{nodes}
use Rattle.page_tree.proofs.InDocument.{document_distinct}
use Rattle.page_tree.proofs.page.Page.nodes_stand_once.Goals as goal

pub returns : goal.returns
returns c = document_distinct (nodes c.args.self.now) c.args.self.now.roots c.args.self.now.arena.sound c.args.self.now.rooted c.args.owner c.requires
