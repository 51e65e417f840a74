use Rattle.js_direct.proofs.Arguing.{argument_ended, argument_left}
use Rattle.js_direct.proofs.calls.hand_argument.Goals as goal

pub returns-in-Left : goal.returns-in-Left
returns-in-Left c = argument_left c.wait_argument.result c.args.run.now c.wait_argument.new.run c.args.how _ c.in-Left.is c.wait_argument.ensures

pub returns-in_default : goal.returns-in_default
returns-in_default c = argument_ended c.args.run.now c.args.how _ c.in_default.not-Left
