use Rattle.std.proofs.lemmas.Result.{IfOk-weaker}
use Rattle.js_direct.proofs.Handing.{handed_left, handed_same}
use Rattle.js_direct.proofs.properties.hand_base.Goals as goal

pub returns-in-Left-clause-hands : goal.returns-in-Left-clause-hands
returns-in-Left-clause-hands c = handed_left c.wait.result c.args.run.now c.wait.new.run c.args.how _ c.in-Left.is c.wait.ensures.left c.wait.ensures.waits c.wait.ensures.next c.wait.ensures.units

pub returns-in-Left-clause-value : goal.returns-in-Left-clause-value
returns-in-Left-clause-value c = IfOk-weaker c.wait.result _ _ (λ h x. c.take_value.ensures.taken) c.wait.ensures.left

pub returns-in_default : goal.returns-in_default
returns-in_default c = record { hands = handed_same c.args.run.now c.args.how _ c.in_default.not-Left; value = c.take_value.ensures.taken }
