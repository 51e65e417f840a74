use Rattle.page_image.proofs.Looks.{parent_none, parent_some, parent_mine}
use Rattle.page_image.proofs.Pages.{is_node, owner_is}
use Rattle.page_image.proofs.reads.parent.Goals as goal

pub root_of-requires : goal.root_of-requires
root_of-requires c = owner_is c.args.page.now c.args.widget c.args.node c.requires

pub returns-then-is_number-clause-image : goal.returns-then-is_number-clause-image
returns-then-is_number-clause-image c = parent_none c.args.page.now c.args.widget c.args.node c.requires c.root_of.result c.is_number.result c.root_of.ensures c.is_number.ensures c.if-is_number.true

pub parent-requires : goal.parent-requires
parent-requires c = is_node c.args.page.now c.args.widget c.args.node c.requires

pub returns-clause-image : goal.returns-clause-image
returns-clause-image c = parent_some c.args.page.now c.args.widget c.args.node c.requires c.root_of.result c.parent.result c.is_number.result c.root_of.ensures c.is_number.ensures c.if-is_number.false c.parent.ensures

pub returns-clause-own : goal.returns-clause-own
returns-clause-own c = parent_mine c.args.page.now c.args.widget c.args.node c.requires c.root_of.result c.parent.result c.is_number.result c.root_of.ensures c.is_number.ensures c.if-is_number.false c.parent.ensures
