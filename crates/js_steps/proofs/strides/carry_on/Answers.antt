use Rattle.std.proofs.Common.{◌≡◌, ◌-◌, ℕ, refl, subst, arith, ◌∙◌}
use Rattle.js_image.specs.Image.{image}
use Rattle.js_image.proofs.Grown.{kept_same}
use Rattle.js_image.proofs.Units.{kept_then}
use Rattle.js_names.specs.Code.{trees_of}
use Rattle.js_flow.specs.Frames.{flow_plan}
use Rattle.js_flow.specs.Todo.{Strides}
use Rattle.js_flow.proofs.Moves.{strides_none}
use Rattle.js_steps.specs.Tolls.{Halts}
use Rattle.js_steps.proofs.Moved.{strides_on}
use Rattle.js_steps.proofs.strides.carry_on.Goals as goal

pub steps-init : goal.steps-init
steps-init c =
    let w = c.args.w in
    let fs = trees_of c.args.codes.now.items in
    let old = c.args.store.now in
    let i = c.args.meter.now.left in
    let none : 0 ≡ i - i = omega arith in
    record {
      strides = λ r. subst (λ (n : ℕ). Strides c.args.units n (flow_plan fs w old.cells c.args.flow.now (image fs r w old)) (flow_plan fs w old.cells c.args.flow.now (image fs r w old))) none (strides_none c.args.units _ _ refl);
      fine = c.requires.held;
      call = c.requires.call;
      near = omega arith;
      kept = kept_same fs w old old refl;
      spends = (omega arith, refl);
    }

pub go_on-requires-clause-first : goal.go_on-requires-clause-first
go_on-requires-clause-first c = omega (arith, c.steps.invariant.spends.0, c.left-first.ensures.value)

pub steps-smaller : goal.steps-smaller
steps-smaller c = c.in_ok-halt.ensures.less c.in-Paid.is

pub steps-preserved : goal.steps-preserved
steps-preserved c =
    let w = c.args.w in
    let fs = trees_of c.args.codes.now.items in
    let mid = c.steps.store in
    let new = c.go_on.new.store in
    let i = c.args.meter.now.left in
    let had = c.steps.meter.left in
    let has = c.go_on.new.meter.left in
    let kept = c.steps.invariant in
    let step = c.in_ok-halt.ensures in
    record {
      strides = λ r. strides_on c.args.units i had has _ _ _ (kept.strides r)
          (subst (λ (n : ℕ). Strides (c.args.units - (n - had)) (had - has) (flow_plan fs w mid.cells c.steps.flow (image fs r w mid)) (flow_plan fs w new.cells c.go_on.new.flow (image fs r w new)))
          c.left-first.ensures.value (step.strides r)) step.spends.0 kept.spends.0;
      fine = step.fine;
      call = step.call;
      near = omega (arith, kept.near, step.near);
      kept = kept_then fs w c.args.store.now mid new kept.kept step.kept;
      spends = (omega (arith, step.spends.0, kept.spends.0), step.spends.1 ∙ kept.spends.1);
    }

pub returns-in_err-halt-clause-kept : goal.returns-in_err-halt-clause-kept
returns-in_err-halt-clause-kept c =
    kept_then (trees_of c.args.codes.now.items) c.args.w c.args.store.now c.steps.store c.go_on.new.store c.steps.invariant.kept c.go_on.ensures.kept

pub returns-in_default : goal.returns-in_default
returns-in_default c =
    let w = c.args.w in
    let fs = trees_of c.args.codes.now.items in
    let mid = c.steps.store in
    let new = c.go_on.new.store in
    let i = c.args.meter.now.left in
    let had = c.steps.meter.left in
    let has = c.go_on.new.meter.left in
    let kept = c.steps.invariant in
    let step = c.in_ok-halt.ensures in
    record {
      strides = λ r. strides_on c.args.units i had has _ _ _ (kept.strides r)
          (subst (λ (n : ℕ). Strides (c.args.units - (n - had)) (had - has) (flow_plan fs w mid.cells c.steps.flow (image fs r w mid)) (flow_plan fs w new.cells c.go_on.new.flow (image fs r w new)))
          c.left-first.ensures.value (step.strides r)) step.spends.0 kept.spends.0;
      halts = subst (λ (n : ℕ). Halts c.args.units (n - has) has c.go_on.new.flow.next c.in_ok-halt.halt) c.left-first.ensures.value (step.halts c.in_default.not-Paid);
      fine = step.fine;
      call = step.call;
      near = omega (arith, kept.near, step.near);
      kept = kept_then fs w c.args.store.now mid new kept.kept step.kept;
      spends = (omega (arith, step.spends.0, kept.spends.0), step.spends.1 ∙ kept.spends.1);
    }
