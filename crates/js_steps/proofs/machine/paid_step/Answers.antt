use Rattle.std.proofs.Common.{◌≡◌, ◌<◌, List, sym, ◌∙◌, arith, subst}
use Rattle.js_image.specs.Image.{image}
use Rattle.js_image.proofs.Units.{kept_then}
use Rattle.js_names.specs.Code.{trees_of}
use Rattle.js_flow.specs.declared.frame.Frame.{Frame}
use Rattle.js_flow.specs.declared.task.Control.{Control}
use Rattle.js_flow.specs.Fine.{FineControl, FineFrames}
use Rattle.js_flow.specs.Left.{all_frames}
use Rattle.js_flow.specs.Todo.{IsGoing, todo}
use Rattle.js_flow.specs.Free.{control_free, free, native_free}
use Rattle.js_steps.specs.Charges.{after_charge}
use Rattle.js_steps.proofs.Ending.{if_native}
use Rattle.js_steps.proofs.machine.paid_step.Goals as goal

pub start-requires-clause-going : goal.start-requires-clause-going
start-requires-clause-going c = subst (λ (q : Control). IsGoing q) (sym c.take_flow-flow.ensures.control) c.requires.going

pub start-requires-clause-held : goal.start-requires-clause-held
start-requires-clause-held c =
    let w = c.args.w in
    let fs = trees_of c.args.codes.now.items in
    let cells = c.args.store.now.cells in
    let all = c.take_flow-flow.ensures.frames in (
      subst (λ (q : Control). FineControl fs w cells q) (sym c.take_flow-flow.ensures.control) c.requires.held.0,
      subst (λ (l : List Frame). FineFrames fs w cells l) (sym all) c.requires.held.1,
    )

pub returns-clause-plan : goal.returns-clause-plan
returns-clause-plan c = λ r.
    let w = c.args.w in
    let fs = trees_of c.args.codes.now.items in
    let old = c.args.store.now in
    let new = c.settle.new.store in
    let all = c.take_flow-flow.ensures.frames in
    c.put.ensures.plan fs w new.cells (image fs r w new) ∙ (c.in_ok-settle.ensures.plan r ∙ (c.in_ok-start.ensures.plan r
    ∙ (λ i. todo fs w old.cells (after_charge (c.take_flow-flow.ensures.control i)) (all i) (image fs r w old))))

pub returns-clause-native : goal.returns-clause-native
returns-clause-native c =
    let all = c.take_flow-flow.ensures.frames in
    if_native c.put.result _ _
    (λ x.
    let y = c.in_ok-settle.ensures.native x.0 in
    let z = c.in_ok-start.ensures.native y.0 in
    (subst (λ (q : Control). native_free < control_free (after_charge q)) c.take_flow-flow.ensures.control z.0, x.1 ∙ (y.1 ∙ (z.1 ∙ all))))
    c.put.ensures.native

pub returns-clause-held : goal.returns-clause-held
returns-clause-held c = c.put.ensures.fine (trees_of c.args.codes.now.items) c.args.w c.settle.new.store.cells c.in_ok-settle.ensures.fine

pub returns-clause-kept : goal.returns-clause-kept
returns-clause-kept c =
    kept_then (trees_of c.args.codes.now.items) c.args.w c.args.store.now c.start.new.store c.settle.new.store c.start.ensures.kept c.settle.ensures.kept

pub returns-clause-near : goal.returns-clause-near
returns-clause-near c =
    let was = c.args.task.now in
    let from = c.take_flow-flow.ensures in
    let same : free (after_charge c.take_flow-flow.new.task.control) (all_frames c.take_flow-flow.result) ≡ free (after_charge was.control) was.frames.list.items = λ i. free (after_charge (from.control i)) (from.frames i) in
    omega (arith, c.put.ensures.near, c.in_ok-settle.ensures.near, c.in_ok-start.ensures.near, same)

pub returns-clause-widget : goal.returns-clause-widget
returns-clause-widget c = c.put.ensures.widget ∙ (c.start.ensures.widget ∙ c.take_flow-flow.ensures.widget)

pub returns-in_err-settle-clause-kept : goal.returns-in_err-settle-clause-kept
returns-in_err-settle-clause-kept c =
    kept_then (trees_of c.args.codes.now.items) c.args.w c.args.store.now c.start.new.store c.settle.new.store c.start.ensures.kept c.settle.ensures.kept

pub returns-in_err-start-clause-widget : goal.returns-in_err-start-clause-widget
returns-in_err-start-clause-widget c = c.start.ensures.widget ∙ c.take_flow-flow.ensures.widget

pub returns-in_err-settle-clause-widget : goal.returns-in_err-settle-clause-widget
returns-in_err-settle-clause-widget c = c.start.ensures.widget ∙ c.take_flow-flow.ensures.widget
