use Rattle.page_image.proofs.Looks.{root_told}
use Rattle.page_image.proofs.Pages.{owner_is}
use Rattle.page_image.proofs.reads.is_root.Goals as goal

pub root_of-requires : goal.root_of-requires
root_of-requires c = owner_is c.args.page.now c.args.widget c.args.node c.requires.own

pub returns : goal.returns
returns c = root_told c.args.page.now c.args.widget c.requires.home c.args.node c.requires.own c.root_of.result c.is_number.result c.root_of.ensures c.is_number.ensures
