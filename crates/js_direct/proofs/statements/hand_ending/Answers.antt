use Rattle.std.proofs.Common.{◌∷◌, ◌++◌, [], ap, ◌∙◌}
use Rattle.std.proofs.lemmas.Result.{IfOk-weaker}
use Rattle.js_flow.specs.declared.frame.Frame.TheVariants as frame
use Rattle.js_direct.proofs.Handing.{handed_left, handed_same}
use Rattle.js_direct.proofs.statements.hand_ending.Goals as goal

pub returns-in-Left : goal.returns-in-Left
returns-in-Left c =
    let had = c.args.run.now in
    handed_left c.wait.result had c.wait.new.run c.args.how _ c.in-Left.is c.wait.ensures.left
    (IfOk-weaker c.wait.result _ _ (λ h x. x ∙ ap (λ g. had.waits.items ++ frame.Statement g ∷ []) c.waiting.ensures) c.wait.ensures.waits) c.wait.ensures.next c.wait.ensures.units

pub returns-in_default : goal.returns-in_default
returns-in_default c = handed_same c.args.run.now c.args.how _ c.in_default.not-Left
