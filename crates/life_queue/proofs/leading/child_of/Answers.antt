use Rattle.std.proofs.Common.{Some}
use Rattle.page_image.proofs.Pages.{is_node}
use Rattle.life_queue.proofs.Led.{place_own, some_own}
use Rattle.life_queue.proofs.leading.child_of.Goals as goal

pub child-requires : goal.child-requires
child-requires c = is_node c.args.page.now c.args.w c.in-Some.node (some_own c.args.page.now c.args.w c.args.place c.in-Some.node c.in-Some.is c.requires.own)

pub returns-in-Some-clause-own : goal.returns-in-Some-clause-own
returns-in-Some-clause-own c = place_own c.args.page.now c.args.w (Some c.in-Some.node) c.args.step (some_own c.args.page.now c.args.w c.args.place c.in-Some.node c.in-Some.is c.requires.own) c.child.result c.child.ensures
