use Rattle.js_direct.proofs.Handing.{handed_left, handed_same}
use Rattle.js_direct.proofs.assigning.hand_write.Goals as goal

pub returns-in-Left : goal.returns-in-Left
returns-in-Left c = handed_left c.wait_write.result c.args.run.now c.wait_write.new.run c.args.how _ c.in-Left.is c.wait_write.ensures.left c.wait_write.ensures.waits c.wait_write.ensures.next c.wait_write.ensures.units

pub returns-in_default : goal.returns-in_default
returns-in_default c = handed_same c.args.run.now c.args.how _ c.in_default.not-Left
