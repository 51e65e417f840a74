use Rattle.js_direct.proofs.Handing.{handed_left, handed_same}
use Rattle.js_direct.proofs.targets.hand_delete.Goals as goal

pub returns-in-Left : goal.returns-in-Left
returns-in-Left c = handed_left c.wait.result c.args.run.now c.wait.new.run c.args.how _ c.in-Left.is c.wait.ensures.left c.wait.ensures.waits c.wait.ensures.next c.wait.ensures.units

pub returns-in_default : goal.returns-in_default
returns-in_default c = handed_same c.args.run.now c.args.how _ c.in_default.not-Left
