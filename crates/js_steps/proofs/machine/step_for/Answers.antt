use Rattle.std.proofs.Common.{◌≡◌, ◌-◌, ℕ, refl, sym, ap, subst, arith}
use Rattle.std.proofs.lemmas.Result.{IfOk-weaker}
use Rattle.js_image.specs.Image.{image}
use Rattle.js_names.specs.Code.{trees_of}
use Rattle.js_flow.specs.Todo.{Moves, todo}
use Rattle.js_flow.proofs.Moves.{stays}
use Rattle.js_steps.specs.Charges.{after_charge, charge_of}
use Rattle.js_steps.proofs.Charged.{charged, lighter}
use Rattle.js_steps.proofs.Ending.{stepped_ends}
use Rattle.js_steps.proofs.Moved.{both, not_fuel, then_free}
use Rattle.js_steps.proofs.machine.step_for.Goals as goal

pub returns-then-not-pay-clause-moves : goal.returns-then-not-pay-clause-moves
returns-then-not-pay-clause-moves c = λ r.
    let w = c.args.w in
    let fs = trees_of c.args.codes.now.items in
    let old = c.args.store.now in
    let task = c.args.task.now in
    let no = c.pay.ensures.no c.if-not-pay.true in
    let before = todo fs w old.cells task.control task.frames.list.items (image fs r w old) in
    let none : c.args.meter.now.left - c.pay.new.meter.left ≡ 0 = omega (arith, ap (λ m. m.left) no.1) in
    subst (λ (n : ℕ). Moves n (image fs r w old) before before) (sym none) (stays (image fs r w old) before before refl)

pub returns-then-not-pay-clause-fuel : goal.returns-then-not-pay-clause-fuel
returns-then-not-pay-clause-fuel c =
    let no = c.pay.ensures.no c.if-not-pay.true in
    let w = c.args.w in
    let fs = trees_of c.args.codes.now.items in
    let old = c.args.store.now in
    let task = c.args.task.now in
    (refl, refl, no.1, λ r. (charged fs w old.cells task.control task.frames.list.items (image fs r w old) c.requires.going).beyond c.args.meter.now.left (omega (arith, no.0, c.cost-units.ensures)))

pub returns-clause-moves : goal.returns-clause-moves
returns-clause-moves c =
    let w = c.args.w in
    let fs = trees_of c.args.codes.now.items in
    let old = c.args.store.now in
    let q = c.args.task.now.control in
    let frames = c.args.task.now.frames.list.items in
    let yes = c.pay.ensures.yes c.if-not-pay.false in
    let units : c.args.meter.now.left - c.pay.new.meter.left ≡ charge_of q = omega (arith, yes.1, c.cost-units.ensures) in
    IfOk-weaker c.paid_step.result _ _
    (λ k h r. then_free _ (image fs r w old) (image fs r w old) _ _ _
    (subst (λ (n : ℕ). Moves n (image fs r w old) (todo fs w old.cells q frames (image fs r w old)) (todo fs w old.cells (after_charge q) frames (image fs r w old))) (sym units)
    (charged fs w old.cells q frames (image fs r w old) c.requires.going))
    (stays (image fs r w old) _ _ (sym (h r))))
    c.paid_step.ensures.plan

pub returns-clause-follows : goal.returns-clause-follows
returns-clause-follows c = IfOk-weaker c.paid_step.result _ _ (λ k h. h.0) c.paid_step.ensures.follows

pub returns-clause-call : goal.returns-clause-call
returns-clause-call c =
    let w = c.args.w in
    let fs = trees_of c.args.codes.now.items in
    let q = c.args.task.now.control in
    let frames = c.args.task.now.frames.list.items in
    let is = c.paid_step.new.task in
    let step = c.paid_step.ensures in
    IfOk-weaker c.paid_step.result _ _
    (λ k h. stepped_ends fs w c.args.store.now c.paid_step.new.store q is.control k frames is.frames.list.items step.kept.grows c.requires.held.1 c.requires.going c.requires.call
    h.0.0 h.0.1.0 h.0.1.1 h.1.0 h.1.1)
    (both c.paid_step.result _ _ (both c.paid_step.result _ _ step.plan step.follows) (both c.paid_step.result _ _ step.light step.native))

pub returns-clause-fuel : goal.returns-clause-fuel
returns-clause-fuel c = IfOk-weaker c.paid_step.result _ _ (λ k h. not_fuel k _ h.1) c.paid_step.ensures.follows

pub returns-clause-near : goal.returns-clause-near
returns-clause-near c =
    let yes = c.pay.ensures.yes c.if-not-pay.false in
    IfOk-weaker c.paid_step.result _ _ (λ k h n. omega (arith, h, yes.1, c.cost-units.ensures, lighter c.args.task.now.control)) c.paid_step.ensures.near
