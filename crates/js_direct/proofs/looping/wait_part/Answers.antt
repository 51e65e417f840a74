use Rattle.std.proofs.Common.{◌∷◌, ◌++◌, [], ap, ◌∙◌}
use Rattle.std.proofs.lemmas.Result.{IfOk-weaker}
use Rattle.js_flow.specs.declared.frame.Frame.TheVariants as frame
use Rattle.js_direct.proofs.looping.wait_part.Goals as goal

pub returns-clause-waits : goal.returns-clause-waits
returns-clause-waits c = IfOk-weaker c.wait.result _ _ (λ h x. x ∙ ap (λ g. c.args.run.now.waits.items ++ frame.Statement g ∷ []) c.waiting_in.ensures) c.wait.ensures.waits
