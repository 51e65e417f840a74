use Rattle.std.proofs.Common.{subst}
use Rattle.std.specs.Prelude.{IfOk}
use Rattle.store_cells.specs.declared.value.Value.{Value as Value2}
use Rattle.js_direct.proofs.Handing.{handed_left, handed_same}
use Rattle.js_direct.specs.Hands.{HandsOn}
use Rattle.js_flow.specs.declared.frame.Frame.TheVariants as frame
use Rattle.js_flow.specs.declared.frame.StatementFrame.TheVariants as statement
use Rattle.js_direct.proofs.choosing.hand_case.Goals as goal

pub returns-in-Left : goal.returns-in-Left
returns-in-Left c =
    subst (λ (v : Value2). IfOk c.wait.result (λ h. HandsOn c.args.run.now c.wait.new.run c.args.how h (frame.Statement (statement.Case v c.args.at.0 c.args.at.1 c.args.place.now)))) c.take_value-value.ensures.taken
    (handed_left c.wait.result c.args.run.now c.wait.new.run c.args.how _ c.in-Left.is c.wait.ensures.left c.wait.ensures.waits c.wait.ensures.next c.wait.ensures.units)

pub returns-in_default : goal.returns-in_default
returns-in_default c = handed_same c.args.run.now c.args.how _ c.in_default.not-Left
