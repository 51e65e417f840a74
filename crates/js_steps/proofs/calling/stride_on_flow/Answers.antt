use Rattle.std.proofs.Common.{◌≡◌, ◌-◌, List, sym, ap, subst, ◌∙◌, arith}
use Rattle.widget_meaning.specs.Plan.{Plan}
use Rattle.widget_meaning.specs.Meaning.{run_plan}
use Rattle.js_image.specs.Image.{image}
use Rattle.js_image.proofs.Units.{kept_then}
use Rattle.js_names.specs.Code.{trees_of}
use Rattle.js_flow.specs.declared.frame.Frame.{Frame}
use Rattle.js_flow.specs.declared.task.Control.{Control}
use Rattle.js_flow.specs.Fine.{FineControl, FineFrames}
use Rattle.js_flow.specs.Frames.{flow_plan}
use Rattle.js_flow.specs.Free.{free}
use Rattle.js_flow.specs.Left.{all_frames}
use Rattle.js_flow.specs.Todo.{IsGoing, Strides, after_step, todo}
use Rattle.js_steps.specs.Answered.{machine}
use Rattle.js_steps.specs.Ending.{EndsCall}
use Rattle.js_steps.proofs.Answering.{fine_as, follows_as}
use Rattle.js_steps.proofs.Tolls.{at_cut, at_over, at_short, ends_at_rest, flow_moves, halt_settled, halted, resumed_ends}
use Rattle.js_steps.proofs.calling.stride_on_flow.Goals as goal

pub resumed-requires-clause-going : goal.resumed-requires-clause-going
resumed-requires-clause-going c = subst (λ (q : Control). IsGoing q) (sym (c.take_control-control.ensures.result ∙ c.take_flow-flow.ensures.control)) c.requires.going

pub resumed-requires-clause-held : goal.resumed-requires-clause-held
resumed-requires-clause-held c =
    let w = c.args.task.now.widget in
    let fs = trees_of c.args.codes.now.items in
    let cells = c.args.store.now.cells in
    let at = c.take_control-control.ensures.result ∙ c.take_flow-flow.ensures.control in (
      subst (λ (q : Control). FineControl fs w cells q) (sym at) c.requires.held.0,
      subst (λ (l : List Frame). FineFrames fs w cells l) (sym c.take_flow-flow.ensures.frames) c.requires.held.1,
    )

pub carry_on-requires-clause-call : goal.carry_on-requires-clause-call
carry_on-requires-clause-call c =
    let w = c.args.task.now.widget in
    let fs = trees_of c.args.codes.now.items in
    let old = c.args.store.now in
    let at = c.take_control-control.ensures.result ∙ c.take_flow-flow.ensures.control in
    let frames = all_frames c.take_flow-flow.result in
    let call = subst (λ (q : Control). EndsCall fs w old q frames) (sym at) (subst (λ (l : List Frame). EndsCall fs w old c.args.task.now.control l) (sym c.take_flow-flow.ensures.frames) c.requires.held.2) in
    resumed_ends fs w old c.resumed.new.store c.take_control-control.result frames c.resumed.new.flow (subst (λ (q : Control). IsGoing q) (sym at) c.requires.going) call
    c.in_ok-resumed.ensures.plan c.in_ok-resumed.ensures.native

pub put_halted-step-requires-clause-settled : goal.put_halted-step-requires-clause-settled
put_halted-step-requires-clause-settled c =
    halt_settled c.args.units (c.args.meter.now.left - c.carry_on.new.meter.left) c.carry_on.new.meter.left (trees_of c.args.codes.now.items) c.args.task.now.widget c.carry_on.new.store.cells
    c.carry_on.new.flow c.in_ok-halt.halt c.in_ok-halt.ensures.fine c.in_ok-halt.ensures.halts

pub put_halted-step-requires-clause-halted : goal.put_halted-step-requires-clause-halted
put_halted-step-requires-clause-halted c =
    halted c.args.units (c.args.meter.now.left - c.carry_on.new.meter.left) c.carry_on.new.meter.left c.carry_on.new.flow.next c.in_ok-halt.halt c.in_ok-halt.ensures.halts

pub answered-requires : goal.answered-requires
answered-requires c = record { ends = (c.put_halted-step.ensures.call (trees_of c.args.codes.now.items) c.args.task.now.widget c.carry_on.new.store c.in_ok-halt.ensures.call).1 }

pub returns-clause-strides : goal.returns-clause-strides
returns-clause-strides c = λ r.
    let w = c.args.task.now.widget in
    let fs = trees_of c.args.codes.now.items in
    let old = c.args.store.now in
    let new = c.carry_on.new.store in
    let is = c.put_halted-step.new.task in
    let spent = c.args.meter.now.left - c.carry_on.new.meter.left in
    let at = c.take_control-control.ensures.result ∙ c.take_flow-flow.ensures.control in
    let before = c.in_ok-resumed.ensures.plan r ∙ (λ j. todo fs w old.cells (at j) (c.take_flow-flow.ensures.frames j) (image fs r w old)) in
    let after = ap (λ q. after_step fs w new.cells q is.control is.frames.list.items (image fs r w new)) c.answered.ensures ∙ c.put_halted-step.ensures.plan fs w new.cells (image fs r w new) in
    subst (λ (p : Plan). Strides c.args.units spent p (after_step fs w new.cells (machine c.answered.result) is.control is.frames.list.items (image fs r w new))) before
    (subst (λ (q : Plan). Strides c.args.units spent (flow_plan fs w c.resumed.new.store.cells c.resumed.new.flow (image fs r w c.resumed.new.store)) q) (sym after) (c.in_ok-halt.ensures.strides r))

pub returns-clause-cut : goal.returns-clause-cut
returns-clause-cut c = λ t.
    let w = c.args.task.now.widget in
    let fs = trees_of c.args.codes.now.items in
    let new = c.carry_on.new.store in
    let l = c.carry_on.new.flow in
    let left = c.carry_on.new.meter.left in
    let x = at_cut c.args.units (c.args.meter.now.left - left) left l.next c.answered.result c.put_halted-step.result c.answered.ensures c.in_ok-halt.halt c.in_ok-halt.ensures.halts c.put_halted-step.ensures.answers t in
    (x.1, λ r. ap (run_plan 0) (c.put_halted-step.ensures.todo x.0 fs w new.cells (image fs r w new)) ∙ (flow_moves fs w new.cells l (image fs r w new)).beyond 0 x.2)

pub returns-clause-fuel : goal.returns-clause-fuel
returns-clause-fuel c = λ t.
    let w = c.args.task.now.widget in
    let fs = trees_of c.args.codes.now.items in
    let new = c.carry_on.new.store in
    let l = c.carry_on.new.flow in
    let left = c.carry_on.new.meter.left in
    let x = at_short c.args.units (c.args.meter.now.left - left) left l.next c.answered.result c.put_halted-step.result c.answered.ensures c.in_ok-halt.halt c.in_ok-halt.ensures.halts c.put_halted-step.ensures.answers t in
    (x.1, λ r. ap (run_plan left) (c.put_halted-step.ensures.todo x.0 fs w new.cells (image fs r w new)) ∙ (flow_moves fs w new.cells l (image fs r w new)).beyond left x.2)

pub returns-clause-near : goal.returns-clause-near
returns-clause-near c = λ o f.
    let w = c.args.task.now.widget in
    let fs = trees_of c.args.codes.now.items in
    let l = c.carry_on.new.flow in
    let left = c.carry_on.new.meter.left in
    let at = c.take_control-control.ensures.result ∙ c.take_flow-flow.ensures.control in
    let was = c.args.task.now in
    let over = at_over c.args.units (c.args.meter.now.left - left) left l.next c.answered.result c.put_halted-step.result c.answered.ensures c.in_ok-halt.halt c.in_ok-halt.ensures.halts c.put_halted-step.ensures.answers o f in
    let same : free c.take_control-control.result (all_frames c.take_flow-flow.result) ≡ free was.control was.frames.list.items = λ j. free (at j) (c.take_flow-flow.ensures.frames j) in
    omega (
      arith,
      c.in_ok-halt.ensures.near,
      c.in_ok-resumed.ensures.near,
      c.put_halted-step.ensures.near,
      same,
      ends_at_rest fs w c.carry_on.new.store.cells (all_frames l) l.next c.in_ok-halt.ensures.fine.1 over,
    )

pub returns-clause-follows : goal.returns-clause-follows
returns-clause-follows c = follows_as c.answered.result _ c.answered.ensures _ c.put_halted-step.ensures.follows

pub returns-clause-held : goal.returns-clause-held
returns-clause-held c =
    let w = c.args.task.now.widget in
    let fs = trees_of c.args.codes.now.items in
    let new = c.carry_on.new.store in
    let fine = c.put_halted-step.ensures.fine fs w new.cells c.in_ok-halt.ensures.fine in
    ((fine.0, fine.1, (c.put_halted-step.ensures.call fs w new c.in_ok-halt.ensures.call).0), fine_as c.answered.result _ c.answered.ensures fs w new.cells fine.2)

pub returns-clause-widget : goal.returns-clause-widget
returns-clause-widget c = c.put_halted-step.ensures.widget ∙ (c.take_control-control.ensures.widget ∙ c.take_flow-flow.ensures.widget)

pub returns-clause-kept : goal.returns-clause-kept
returns-clause-kept c =
    kept_then (trees_of c.args.codes.now.items) c.args.task.now.widget c.args.store.now c.resumed.new.store c.carry_on.new.store c.resumed.ensures.kept c.carry_on.ensures.kept

pub returns-in_err-halt-clause-kept : goal.returns-in_err-halt-clause-kept
returns-in_err-halt-clause-kept c =
    kept_then (trees_of c.args.codes.now.items) c.args.task.now.widget c.args.store.now c.resumed.new.store c.carry_on.new.store c.resumed.ensures.kept c.carry_on.ensures.kept

pub returns-in_err-halt-clause-widget : goal.returns-in_err-halt-clause-widget
returns-in_err-halt-clause-widget c = c.take_control-control.ensures.widget ∙ c.take_flow-flow.ensures.widget

pub returns-in_err-resumed-clause-widget : goal.returns-in_err-resumed-clause-widget
returns-in_err-resumed-clause-widget c = c.take_control-control.ensures.widget ∙ c.take_flow-flow.ensures.widget
