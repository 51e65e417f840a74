use Rattle.std.proofs.Common.{List, ℕ, ◌≡◌, ◌∷◌, ◌++◌, [], subst}
use Rattle.std.specs.Prelude.{IfOk}
use Rattle.js_flow.specs.declared.frame.Frame.TheVariants as frame
use Rattle.js_flow.specs.declared.frame.FormFrame.TheVariants as form
use Rattle.js_direct.proofs.Handing.{handed_left, handed_same}
use Rattle.js_direct.proofs.targets.hand_dot.Goals as goal

pub returns-in_ok-share-in-Left : goal.returns-in_ok-share-in-Left
returns-in_ok-share-in-Left c =
    let had = c.args.run.now in
    let has = c.wait.new.run in
    handed_left c.wait.result had has c.args.how _ c.in-Left.is c.wait.ensures.left (subst (λ (x : List ℕ). IfOk c.wait.result (λ h. has.waits.items ≡ had.waits.items ++ frame.Form (form.TargetDot x) ∷ [])) c.in_ok-share-in-Left.ensures c.wait.ensures.waits) c.wait.ensures.next c.wait.ensures.units

pub returns-in_default : goal.returns-in_default
returns-in_default c = handed_same c.args.run.now c.args.how _ c.in_default.not-Left
