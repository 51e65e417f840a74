use Rattle.std.proofs.Common.{◌≡◌, ◌∷◌, ◌++◌, [], subst}
use Rattle.std.specs.Prelude.{IfOk}
use Rattle.store_cells.specs.declared.value.Value.{Value}
use Rattle.js_flow.specs.declared.frame.Frame.TheVariants as frame
use Rattle.js_flow.specs.declared.frame.FormFrame.TheVariants as form
use Rattle.js_direct.proofs.Handing.{handed_left, handed_same}
use Rattle.js_direct.proofs.properties.hand_sub.Goals as goal

pub returns-in-Left : goal.returns-in-Left
returns-in-Left c =
    let had = c.args.run.now in
    let has = c.wait.new.run in
    handed_left c.wait.result had has c.args.how _ c.in-Left.is c.wait.ensures.left
    (subst (λ (v : Value). IfOk c.wait.result (λ h. has.waits.items ≡ had.waits.items ++ frame.Form (form.Sub v) ∷ [])) c.take_value.ensures.taken c.wait.ensures.waits) c.wait.ensures.next c.wait.ensures.units

pub returns-in_default : goal.returns-in_default
returns-in_default c = handed_same c.args.run.now c.args.how _ c.in_default.not-Left
