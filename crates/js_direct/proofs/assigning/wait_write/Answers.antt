use Rattle.std.proofs.Common.{◌≡◌, ℕ, List, [], ◌∷◌, ◌++◌, subst}
use Rattle.std.specs.Prelude.{IfOk}
use Rattle.js_flow.specs.declared.frame.Frame.TheVariants as frame
use Rattle.js_flow.specs.declared.frame.FormFrame.TheVariants as form
use Rattle.js_flow.specs.declared.job.Reference.TheVariants as reference
use Rattle.js_direct.proofs.assigning.wait_write.Goals as goal

pub returns-clause-waits : goal.returns-clause-waits
returns-clause-waits c =
    subst (λ (x : List ℕ). IfOk c.wait.result (λ h. c.wait.new.run.waits.items ≡ c.args.run.now.waits.items ++ frame.Form (form.Write (reference.Variable x) c.args.place.now) ∷ [])) c.in_ok-share.ensures c.wait.ensures.waits
