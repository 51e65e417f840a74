use Rattle.std.proofs.Common.{refl, subst, arith}
use Rattle.std.specs.Prelude.{IfOk}
use Rattle.std.proofs.lemmas.Result.{IfOk-weaker}
use Rattle.store_cells.specs.declared.value.Value.{Value}
use Rattle.widget_meaning.specs.OwnState.{State}
use Rattle.widget_meaning.specs.Plan.{Plan}
use Rattle.widget_meaning.specs.Values as meaning
use Rattle.js_image.specs.Image.{seen}
use Rattle.js_names.specs.Code.{trees_of}
use Rattle.js_flow.specs.Frames.{taken}
use Rattle.js_flow.specs.Free.{form_free, left_free}
use Rattle.js_flow.specs.declared.frame.Frame.TheVariants as frame
use Rattle.js_direct.specs.Comes.{Comes}
use Rattle.js_direct.proofs.FormFrames.{instead}
use Rattle.js_direct.proofs.operators.taken_by_frames.Goals as goal

pub returns-clause-comes : goal.returns-clause-comes
returns-clause-comes c =
    let fs = trees_of c.args.site.now.codes.now.items in
    let w = c.args.site.now.widget in
    let old = c.args.store.now in
    let new = c.take_form.new.store in
    let f = c.args.frame.now in
    let left = c.in_ok-take_form.ensures in
    let todo : Value → State → Plan = λ b s. taken fs w old.cells (frame.Form f) (meaning.Is (seen w old.cells b)) s in
    let v = c.take_value-value.result in
    subst (λ (b : Value). IfOk c.handed.result (λ h. Comes fs w old new (form_free f) (todo b) c.args.run.now c.handed.new.run h c.handed.new.out)) c.take_value-value.ensures.taken
    (IfOk-weaker c.handed.result _ _
    (λ h x. instead fs w old new (left_free c.take_form.new.flow) (form_free f) (todo v) (todo v) c.args.run.now c.handed.new.run h _
    (x fs w old new (todo v) left.plan left.fine (omega (arith, left.near, c.requires.light))) (λ r. refl) left.near)
    c.handed.ensures.comes)
