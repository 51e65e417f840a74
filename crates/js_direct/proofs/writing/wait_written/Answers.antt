use Rattle.std.proofs.Common.{◌≡◌, [], ◌∷◌, ◌++◌, subst}
use Rattle.std.specs.Prelude.{IfOk}
use Rattle.js_flow.specs.declared.frame.Frame.TheVariants as frame
use Rattle.js_flow.specs.declared.frame.FormFrame.TheVariants as form
use Rattle.js_flow.specs.declared.job.Reference.{Reference}
use Rattle.js_direct.proofs.writing.wait_written.Goals as goal

pub returns-clause-waits : goal.returns-clause-waits
returns-clause-waits c =
    subst (λ (x : Reference). IfOk c.wait.result (λ h. c.wait.new.run.waits.items ≡ c.args.run.now.waits.items ++ frame.Form (form.Write x c.args.place.now) ∷ [])) c.take_reference-reference.ensures c.wait.ensures.waits
