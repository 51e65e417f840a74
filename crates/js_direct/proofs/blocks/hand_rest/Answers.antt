use Rattle.js_direct.proofs.Handing.{handed_left, handed_same}
use Rattle.js_direct.proofs.blocks.hand_rest.Goals as goal

pub returns-in-Left : goal.returns-in-Left
returns-in-Left c = handed_left c.wait_rest.result c.args.run.now c.wait_rest.new.run c.args.how _ c.in-Left.is c.wait_rest.ensures.left c.wait_rest.ensures.waits c.wait_rest.ensures.next c.wait_rest.ensures.units

pub returns-in_default : goal.returns-in_default
returns-in_default c = handed_same c.args.run.now c.args.how _ c.in_default.not-Left
