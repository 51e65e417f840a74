use Rattle.markup_rules.proofs.Bodies.{room_more, room_ends, room_all, room_short, is_more, is_no_more}
use Rattle.markup_rules.proofs.root.is_crowded.Goals as goal

pub returns-then-is_script : goal.returns-then-is_script
returns-then-is_script c = is_no_more _ (room_ends c.args.children.now c.nodes.plain-index c.plain-item.result c.nodes.left c.nodes-test.true c.plain-item.is c.if-is_script.ensures c.nodes.invariant)

pub returns-in-None : goal.returns-in-None
returns-in-None c = is_more _ (room_short c.args.children.now c.nodes.plain-index c.plain-item.result c.nodes.left c.nodes-test.true c.plain-item.is c.if-is_script.ensures c.in-None.ensures c.nodes.invariant)

pub nodes-preserved : goal.nodes-preserved
nodes-preserved c = room_more c.args.children.now c.nodes.plain-index c.plain-item.result c.nodes.left _ c.nodes-test.true c.plain-item.is c.if-is_script.ensures c.in-Some.ensures c.nodes.invariant

pub returns : goal.returns
returns c = is_no_more _ (room_all c.args.children.now c.nodes.plain-index c.nodes.left c.nodes-test.false c.nodes.invariant)
