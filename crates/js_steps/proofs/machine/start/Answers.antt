use Rattle.std.proofs.Common.{◌<◌, sym, ap, ◌∙◌, subst, arith}
use Rattle.std.proofs.lemmas.Result.{IfOk-weaker}
use Rattle.js_image.specs.Image.{image}
use Rattle.js_names.specs.Code.{trees_of}
use Rattle.js_flow.specs.declared.task.Control.{Control}
use Rattle.js_flow.specs.Fine.{FineControl}
use Rattle.js_flow.specs.Free.{control_free, free, native_free}
use Rattle.js_flow.specs.Left.{all_frames}
use Rattle.js_flow.specs.Todo.{IsGoing, todo}
use Rattle.js_steps.specs.Charges.{after_charge}
use Rattle.js_steps.proofs.machine.start.Goals as goal

pub start_taken-requires-clause-going : goal.start_taken-requires-clause-going
start_taken-requires-clause-going c = subst (λ (q : Control). IsGoing q) (sym c.take_control-control.ensures.result) c.requires.going

pub start_taken-requires-clause-held : goal.start_taken-requires-clause-held
start_taken-requires-clause-held c =
    (subst (λ (q : Control). FineControl (trees_of c.args.codes.now.items) c.args.w c.args.store.now.cells q) (sym c.take_control-control.ensures.result) c.requires.held.0, c.requires.held.1)

pub returns-clause-plan : goal.returns-clause-plan
returns-clause-plan c =
    let w = c.args.w in
    let fs = trees_of c.args.codes.now.items in
    let old = c.args.store.now in
    let frames = all_frames c.args.flow.now in
    IfOk-weaker c.start_taken.result _ _ (λ k h r. h r ∙ ap (λ q. todo fs w old.cells (after_charge q) frames (image fs r w old)) c.take_control-control.ensures.result) c.start_taken.ensures.plan

pub returns-clause-near : goal.returns-clause-near
returns-clause-near c =
    IfOk-weaker c.start_taken.result _ _ (λ k h. omega (arith, h, ap (λ q. free (after_charge q) (all_frames c.args.flow.now)) c.take_control-control.ensures.result)) c.start_taken.ensures.near

pub returns-clause-native : goal.returns-clause-native
returns-clause-native c =
    IfOk-weaker c.start_taken.result _ _
    (λ k h x. (subst (λ (q : Control). native_free < control_free (after_charge q)) c.take_control-control.ensures.result (h x).0, (h x).1))
    c.start_taken.ensures.native
