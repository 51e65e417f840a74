use Rattle.std.proofs.Common.{refl}
use Rattle.widget_form.proofs.Body.{body_more, body_ends, body_all, body_whole}
use Rattle.widget_form.proofs.file.script_place.Goals as goal

pub returns-then-is_script : goal.returns-then-is_script
returns-then-is_script c = body_ends c.args.children.now c.nodes.i c.index-children-i.result c.nodes-test.true c.index-children-i.is c.if-is_script.ensures c.nodes.invariant

pub nodes-preserved : goal.nodes-preserved
nodes-preserved c = body_more c.args.children.now c.nodes.i c.index-children-i.result c.nodes-test.true c.index-children-i.is c.if-is_script.ensures c.nodes.invariant

pub returns : goal.returns
returns c = body_whole c.args.children.now c.nodes.i _ c.nodes-test.false refl (body_all c.args.children.now c.nodes.i c.nodes-test.false c.nodes.invariant)
