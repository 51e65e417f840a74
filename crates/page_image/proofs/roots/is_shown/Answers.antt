use Rattle.page_image.proofs.Adopting.{shown_is}
use Rattle.page_image.proofs.Pages.{is_node}
use Rattle.page_image.proofs.roots.is_shown.Goals as goal

pub parent-requires : goal.parent-requires
parent-requires c = is_node c.args.page.now c.args.widget c.args.node c.requires

pub returns : goal.returns
returns c = shown_is c.args.page.now c.args.node c.parent.result c.is_number.result c.parent.ensures c.is_number.ensures
