use Rattle.page_image.proofs.Pages.{is_widget}
use Rattle.page_image.proofs.Going.{root_is, root_there}
use Rattle.life_queue.proofs.leading.root_of.Goals as goal

pub root_of-requires : goal.root_of-requires
root_of-requires c = is_widget c.args.id.index c.args.id.small

pub returns : goal.returns
returns c = root_is c.args.page.now c.args.id.index c.root_of.result c.in-Some.root c.root_of.ensures c.in-Some.is

pub unreachable-requires : goal.unreachable-requires
unreachable-requires c = root_there c.args.page.now c.args.id.index c.requires c.root_of.result c.root_of.ensures c.in-None.is
